use Rattle.std.proofs.Common.{◌≡◌, ◌-◌, [], false, length, take, drop, sym, subst}
use Rattle.std.specs.List.{list_any, slice_index_or}
use Rattle.std.specs.String.{string_bytes}
use Rattle.command_line.specs.Inputs.{is_standard_input}
use Rattle.hyphenation_breaks.specs.Borrowed.{texts_now}
use Rattle.std.proofs.lemmas.Result.{err_from_is_err_and}
use Rattle.lines_command.proofs.Runs.{begins, ends, first_fails, goes_on, none_left, one_more, still_unread}
use Rattle.lines_command.specs.Private.Requests.{parsed_options}
use Rattle.lines_command.specs.Private.Runs.{GoesOn}
use Rattle.lines_command.proofs.run.page_of.Goals as goal

pub loop-rest-init : goal.loop-rest-init
loop-rest-init g c =
    let options = parsed_options c.args.options.now in
    let bytes_of = g.F.NamedFiles.bytes c.args.files.now in
    let left = g.I.Read.remaining c.args.input.now in
    let all = texts_now c.args.names.now in
    record {
      goes_on = subst (λ page. GoesOn options c.args.dictionary.now bytes_of left all left all page) (sym c.new-page.ensures.bytes) (begins options c.args.dictionary.now bytes_of left all);
      unread = λ none. (λ i. c.args.input.now, none);
    }

pub loop-rest-preserved : goal.loop-rest-preserved
loop-rest-preserved g c =
    let options = parsed_options c.args.options.now in
    let bytes_of = g.F.NamedFiles.bytes c.args.files.now in
    let remaining = g.I.Read.remaining in
    let all = texts_now c.args.names.now in
    let before = c.loop-rest.invariant in
    let rest = c.loop-rest.rest.now in
    let name = (slice_index_or rest 0 (record { ref_ptr = (0, 0); now = [] })).now in
    let others = texts_now (take (length rest - 1) (drop 1 rest)) in
    let more = one_more rest (record { ref_ptr = (0, 0); now = [] }) c.in-len1-up.len_at_least in
    record {
      goes_on =
          goes_on options c.args.dictionary.now bytes_of remaining c.loop-rest.input c.push_input.new.input (remaining c.args.input.now) all name others (string_bytes c.loop-rest.page)
          (string_bytes c.push_input.new.page)
          (subst (λ names. GoesOn options c.args.dictionary.now bytes_of (remaining c.args.input.now) all (remaining c.loop-rest.input) names (string_bytes c.loop-rest.page)) more before.goes_on)
          c.in_ok-push_input.ensures.added
          c.push_input.ensures.unread;
      unread = λ none.
          let so_far = before.unread none in
          still_unread c.args.input.now c.loop-rest.input c.push_input.new.input name others c.push_input.ensures.unread
          (so_far.0, subst (λ names. list_any is_standard_input names ≡ false) more so_far.1);
    }

pub returns : goal.returns
returns g c =
    let options = parsed_options c.args.options.now in
    let bytes_of = g.F.NamedFiles.bytes c.args.files.now in
    let left = g.I.Read.remaining c.args.input.now in
    let all = texts_now c.args.names.now in
    record {
      pages =
          ends options c.args.dictionary.now bytes_of left all (g.I.Read.remaining c.loop-rest.input) (string_bytes c.loop-rest.page)
          (subst (λ names. GoesOn options c.args.dictionary.now bytes_of left all (g.I.Read.remaining c.loop-rest.input) names (string_bytes c.loop-rest.page))
          (none_left c.loop-rest.rest.now c.in_default.len_below) c.loop-rest.invariant.goes_on);
      failure = tt;
      unread = λ none. (c.loop-rest.invariant.unread none).0;
    }

pub returns-in_err-push_input-clause-failure : goal.returns-in_err-push_input-clause-failure
returns-in_err-push_input-clause-failure g c =
    let before = c.loop-rest.invariant in
    let p = err_from_is_err_and c.from_residual.result c.from_residual.ensures.1 in
    first_fails (parsed_options c.args.options.now) c.args.dictionary.now (g.F.NamedFiles.bytes c.args.files.now) (g.I.Read.remaining c.args.input.now)
    (texts_now c.args.names.now) (g.I.Read.remaining c.loop-rest.input) _ _ (texts_now c.loop-rest.rest.now) (string_bytes c.loop-rest.page) _ p.0 c.from_residual.result
    (one_more c.loop-rest.rest.now _ c.in-len1-up.len_at_least) before.goes_on c.in_err-push_input.ensures.failure p.1 p.2

pub returns-in_err-push_input-clause-unread : goal.returns-in_err-push_input-clause-unread
returns-in_err-push_input-clause-unread g c none =
    let before = c.loop-rest.invariant in
    let rest = c.loop-rest.rest.now in
    let name = (slice_index_or rest 0 (record { ref_ptr = (0, 0); now = [] })).now in
    let others = texts_now (take (length rest - 1) (drop 1 rest)) in
    let more = one_more rest (record { ref_ptr = (0, 0); now = [] }) c.in-len1-up.len_at_least in
    let so_far = before.unread none in
    (still_unread c.args.input.now c.loop-rest.input c.push_input.new.input name others c.push_input.ensures.unread
    (so_far.0, subst (λ names. list_any is_standard_input names ≡ false) more so_far.1)).0
