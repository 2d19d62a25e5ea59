use Rattle.std.proofs.Common.{◌≡◌, ◌∙◌, get_or, true, sym, arith}
use Rattle.hyphenation_grammar.specs.Parsed.{pattern_view}
use Rattle.hyphenation_grammar.specs.Private.Tokens.{is_ordinary}
use Rattle.hyphenation_grammar.proofs.OrdinaryPatterns.{byte_of_more, ends_at, one_token_to, ordinary_more, read_to}
use Rattle.hyphenation_grammar.proofs.pattern.read_ordinary_token.Goals as goal

pub loop-end-preserved : goal.loop-end-preserved
loop-end-preserved c =
    let text = c.args.text.now in
    let i = c.loop-end.end in
    let is = c.if-not-branch.false in
    let here : is_ordinary (get_or text i 0) ≡ true = sym c.in_ok-read_if_ordinary.ensures.ordinary ∙ is in
    record {
      within = omega (arith, c.loop-end.invariant.within);
      outside = c.in_ok-read_if_ordinary.ensures.outside is;
      ordinary = ordinary_more text i (omega arith) c.loop-end.invariant.ordinary here;
      read = λ version n more le. byte_of_more version text i n (pattern_view c.loop-end.pattern) (pattern_view c.read_if_ordinary.new.self) _ (omega (arith, more)) le here (c.in_ok-read_if_ordinary.ensures.read is version) (c.loop-end.invariant.read version n (omega (arith, more)) le);
    }

pub returns-then-not-branch-clause-ends : goal.returns-then-not-branch-clause-ends
returns-then-not-branch-clause-ends c = ends_at c.end_of_token.result c.args.text.now c.loop-end.end (omega (arith, c.loop-end-test.true)) c.loop-end.invariant.ordinary c.end_of_token.ensures

pub returns-then-not-branch-clause-token : goal.returns-then-not-branch-clause-token
returns-then-not-branch-clause-token c = one_token_to c.end_of_token.result c.args.text.now c.loop-end.end c.loop-end.invariant.ordinary c.end_of_token.ensures

pub returns-then-not-branch-clause-read : goal.returns-then-not-branch-clause-read
returns-then-not-branch-clause-read c =
    read_to c.end_of_token.result c.args.text.now c.loop-end.end (pattern_view c.loop-end.pattern) (pattern_view c.read_if_ordinary.new.self) (omega (arith, c.loop-end.invariant.within))
    (c.in_ok-read_if_ordinary.ensures.unread c.if-not-branch.true) c.end_of_token.ensures c.loop-end.invariant.read
