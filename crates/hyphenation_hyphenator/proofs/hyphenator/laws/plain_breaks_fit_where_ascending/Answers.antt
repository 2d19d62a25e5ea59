use Rattle.std.proofs.Common.{arith}
use Rattle.hyphenation_hyphenator.proofs.Ascending.{ascend_fits, ascend_from_test, fits_ascend, test_from_ascend}
use Rattle.hyphenation_hyphenator.proofs.hyphenator.laws.plain_breaks_fit_where_ascending.Goals as goal

pub returns : goal.returns
returns c = λ text places. (
  λ fit. test_from_ascend text 0 places (fits_ascend text 0 0 places fit),
  λ ascends. ascend_fits text 0 0 places (omega arith) (ascend_from_test text 0 places ascends),
)
