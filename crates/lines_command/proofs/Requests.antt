-- Options and inputs of a request.
use Rattle.std.proofs.Common.{◌≡◌, ℕ, Bool, List, [], Option, Ok, ap, sym, subst, ◌∙◌}
use Rattle.std.specs.Prelude.{Result, codes, unwrap_or}
use Rattle.command_line.specs.Options.{GivenOption, RefusedArgument, after_step, is_given, last_value, number_given}
use Rattle.command_line.specs.declared.options.BadArgument.{BadArgument}
use Rattle.lines_command.specs.declared.request.Options.{Options}
use Rattle.lines_command.specs.Private.Requests.{AreAsWanted}
use Rattle.lines_command.specs.Arguments.{ParsedOptions, if_limit_serves, limit_of, options_of}

chained : {A B C D E : Type 0} (f : A → B → C → D → Result E RefusedArgument) (a : Result A RefusedArgument) (b : Result B RefusedArgument)
    (c : Result C RefusedArgument) (d : Result D RefusedArgument) (x : A) (y : B) (z : C) (w : D) → a ≡ Ok x → b ≡ Ok y → c ≡ Ok z → d ≡ Ok w
    → after_step (λ p. after_step (λ q. after_step (λ r. after_step (λ s. f p q r s) d) c) b) a ≡ f x y z w
chained f a b c d x y z w ea eb ec ed =
    ap (after_step (λ p. after_step (λ q. after_step (λ r. after_step (λ s. f p q r s) d) c) b)) ea
    ∙ ap (after_step (λ q. after_step (λ r. after_step (λ s. f x q r s) d) c)) eb
    ∙ ap (after_step (λ r. after_step (λ s. f x y r s) d)) ec
    ∙ ap (after_step (λ s. f x y z s)) ed

-- The options of numbers that are given.
pub options_as : (given : List GivenOption) (columns last_columns ladder price : ℕ) → number_given (codes "--width") 0 65535 72 given ≡ Ok columns
    → number_given (codes "--last") 0 65535 0 given ≡ Ok last_columns → number_given (codes "--ladder") 1 255 0 given ≡ Ok ladder
    → number_given (codes "--price") 0 4294967295 0 given ≡ Ok price
    → options_of given ≡ if_limit_serves (last_value (codes "--ladder") given) (record {
      plain = is_given (codes "--plain") given;
      columns = columns;
      even = is_given (codes "--even") given;
      last_columns = last_columns;
      ladder = limit_of ladder;
      price = price;
      first = last_value (codes "--first") given;
      indent = unwrap_or (last_value (codes "--indent") given) [];
    })
options_as given columns last_columns ladder price ew el ea ep =
    chained (λ columns last_columns ladder price. if_limit_serves (last_value (codes "--ladder") given) (record {
      plain = is_given (codes "--plain") given;
      columns = columns;
      even = is_given (codes "--even") given;
      last_columns = last_columns;
      ladder = limit_of ladder;
      price = price;
      first = last_value (codes "--first") given;
      indent = unwrap_or (last_value (codes "--indent") given) [];
    })) _ _ _ _ columns last_columns ladder price ew el ea ep

-- Options are as wanted where each of them is.
pub wanted : (result : Result Options BadArgument) (given : List GivenOption) (columns last_columns ladder price : ℕ) (plain even : Bool) (limit : Option ℕ)
    (first : Option (List ℕ)) (indent : List ℕ) (text : Option (List ℕ)) → number_given (codes "--width") 0 65535 72 given ≡ Ok columns
    → number_given (codes "--last") 0 65535 0 given ≡ Ok last_columns → number_given (codes "--ladder") 1 255 0 given ≡ Ok ladder
    → number_given (codes "--price") 0 4294967295 0 given ≡ Ok price → plain ≡ is_given (codes "--plain") given → even ≡ is_given (codes "--even") given
    → limit ≡ limit_of ladder → first ≡ last_value (codes "--first") given → indent ≡ unwrap_or (last_value (codes "--indent") given) []
    → text ≡ last_value (codes "--ladder") given
    → AreAsWanted result (if_limit_serves text (record { plain = plain; columns = columns; even = even; last_columns = last_columns; ladder = limit; price = price; first = first; indent = indent }))
    → AreAsWanted result (options_of given)
wanted result given columns last_columns ladder price plain even limit first indent text ew el ea ep same_plain same_even same_limit same_first same_indent same_text wanted_so =
    let options : ParsedOptions = record { plain = plain; columns = columns; even = even; last_columns = last_columns; ladder = limit; price = price; first = first; indent = indent } in
    let same : if_limit_serves text options ≡ if_limit_serves (last_value (codes "--ladder") given) (record {
      plain = is_given (codes "--plain") given;
      columns = columns;
      even = is_given (codes "--even") given;
      last_columns = last_columns;
      ladder = limit_of ladder;
      price = price;
      first = last_value (codes "--first") given;
      indent = unwrap_or (last_value (codes "--indent") given) [];
    }) = cc in
    subst (λ w. AreAsWanted result w) (same ∙ sym (options_as given columns last_columns ladder price ew el ea ep)) wanted_so
