-- Names of texts.
use Rattle.std.proofs.Common.{◌≡◌, ℕ, ◌<◌, Bool, true, false, List, [], ◌∷◌, None, Ok, Err, length, refl, ap, arith, cond}
use Rattle.std.specs.Borrow.{Bor}
use Rattle.std.specs.List.{list_any}
use Rattle.std.specs.Prelude.{Result, codes}
use Rattle.command_line.specs.Inputs.{is_standard_input}
use Rattle.command_line.specs.Options.{RefusedArgument, refused}
use Rattle.command_line.specs.declared.options.Expected.TheVariants.{NoMore, Operand}
use Rattle.hyphenation_breaks.specs.Borrowed.{texts_now}
use Rattle.text_results.specs.Targets.{inputs_of, replaced_of}

-- Texts that are named are those.
pub some_inputs : (names : List (Bor (List ℕ))) → 0 < length names → inputs_of (texts_now names) ≡ texts_now names
some_inputs [] some = absurd (omega (arith, some))
some_inputs (name ∷ names) some = refl

pub no_replaced : (names : List (Bor (List ℕ))) → length names ≡ 0 → replaced_of (texts_now names) ≡ Err (refused (codes "FILE") None Operand)
no_replaced [] none = refl
no_replaced (name ∷ names) none = absurd (omega (arith, none))

by_input : (all : List (List ℕ)) (t is : Bool) → t ≡ is
    → cond {A = Result (List (List ℕ)) RefusedArgument} t (Err (refused (codes "-") None NoMore)) (Ok all) ≡ cond is (Err (refused (codes "-") None NoMore)) (Ok all)
by_input all t is e = ap (λ b. cond {A = Result (List (List ℕ)) RefusedArgument} b (Err (refused (codes "-") None NoMore)) (Ok all)) e

pub some_replaced : (names : List (Bor (List ℕ))) → 0 < length names → list_any is_standard_input (texts_now names) ≡ false → replaced_of (texts_now names) ≡ Ok (texts_now names)
some_replaced [] some none = absurd (omega (arith, some))
some_replaced (name ∷ names) some none = by_input (texts_now (name ∷ names)) (list_any is_standard_input (texts_now (name ∷ names))) false none

pub input_replaced : (names : List (Bor (List ℕ))) → 0 < length names → list_any is_standard_input (texts_now names) ≡ true
    → replaced_of (texts_now names) ≡ Err (refused (codes "-") None NoMore)
input_replaced [] some one = absurd (omega (arith, some))
input_replaced (name ∷ names) some one = by_input (texts_now (name ∷ names)) (list_any is_standard_input (texts_now (name ∷ names))) true one
