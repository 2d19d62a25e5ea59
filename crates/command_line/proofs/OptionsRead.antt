-- Arguments that are read one after the other.
use Rattle.std.proofs.Common.{◌≡◌, ℕ, ◌&&◌, ◌||◌, Bool, true, false, true≢false, not, List, [], ◌∷◌, ◌++◌, Option, Some, None, refl, sym, ap, ◌∙◌}
use Rattle.std.specs.Prelude.{codes, is_none, is_ok, Result, Ok, Err}
use Rattle.std.specs.List.{filter, list_all}
use Rattle.std.specs.Option.{option_map_or}
use Rattle.std.proofs.lemmas.Bool.{cond-true, cond-false, and_parts, not-true}
use Rattle.std.proofs.lemmas.List.{append_assoc, append-nil}
use Rattle.hyphenation_grammar.specs.Lines.{is_same}
use Rattle.command_line.specs.Options.{ReadArguments, RefusedArgument, refused, Any, OperandsAlone, is_operand, form_of, name_in, value_in, with_given, with_operand, with_option, with_option_if_known, with_argument, expected_for, after_step, read_after}
use Rattle.command_line.specs.OptionLaws.{ValuesJoin, OperandsFollowDashes, OperandsAreRead, OptionsMove, OperandsAreKept, stands_alone}
use Rattle.command_line.specs.Usage.{OptionForm}
use Rattle.command_line.specs.declared.options.Expected.TheVariants.{NoValue}
use Rattle.command_line.proofs.OptionTexts.{name_in_name, value_in_name, name_in_joined, value_in_joined, joined_is_no_operand, joined_is_not_dashes, operand_is_not_dashes}

as_option : (forms : List OptionForm) (so_far : ReadArguments) (text : List ℕ) → is_same text (codes "--") ≡ false → is_operand text ≡ false
    → with_argument forms so_far Any text ≡ with_option_if_known so_far (form_of forms (name_in text)) text
as_option forms so_far text other option = cond-false _ _ _ other ∙ cond-false _ _ _ option

value_next : (forms : List OptionForm) (so_far : ReadArguments) (found : Option OptionForm) (name text value : List ℕ) (rest : List (List ℕ))
    → option_map_or (λ form. form.takes_value) found false ≡ true → value_in name ≡ None → value_in text ≡ Some value
    → after_step (λ step. read_after forms step.0 step.1 (value ∷ rest)) (with_option_if_known so_far found name)
    ≡ after_step (λ step. read_after forms step.0 step.1 rest) (with_option_if_known so_far found text)
value_next forms so_far None name text value rest takes none some = absurd (true≢false (sym takes))
value_next forms so_far (Some form) name text value rest takes none some =
    ap (λ o. after_step (λ step. read_after forms step.0 step.1 (value ∷ rest)) (with_option so_far form o)) none
    ∙ ap (λ r. after_step (λ step. read_after forms step.0 step.1 (value ∷ rest)) r) (cond-true _ _ _ takes)
    ∙ sym (ap (λ o. after_step (λ step. read_after forms step.0 step.1 rest) (with_option so_far form o)) some
    ∙ ap (λ r. after_step (λ step. read_after forms step.0 step.1 rest) r) (cond-true _ _ _ takes))

pub values_join : ValuesJoin
values_join forms so_far name value rest fits takes =
    let parts = and_parts _ _ fits in
    let others = and_parts _ _ parts.1 in
    let option : is_operand name ≡ false = not-true _ parts.0 in
    let bare = others.1 in
    let text = name ++ (codes "=" ++ value) in
    ap (after_step (λ step. read_after forms step.0 step.1 (value ∷ rest))) (as_option forms so_far name (not-true _ others.0) option)
    ∙ ap (λ n. after_step (λ step. read_after forms step.0 step.1 (value ∷ rest)) (with_option_if_known so_far (form_of forms n) name)) (name_in_name name bare)
    ∙ value_next forms so_far (form_of forms name) name text value rest takes (value_in_name name bare) (value_in_joined name value bare)
    ∙ sym (ap (after_step (λ step. read_after forms step.0 step.1 rest)) (as_option forms so_far text (joined_is_not_dashes name value option) (joined_is_no_operand name value option))
    ∙ ap (λ n. after_step (λ step. read_after forms step.0 step.1 rest) (with_option_if_known so_far (form_of forms n) text)) (name_in_joined name value bare))

operands_left : (forms : List OptionForm) (so_far : ReadArguments) (rest : List (List ℕ))
    → read_after forms so_far OperandsAlone rest ≡ Ok (record so_far { operands = so_far.operands ++ rest })
operands_left forms so_far [] = ap (λ all. Ok (record so_far { operands = all })) (sym (append-nil so_far.operands))
operands_left forms so_far (text ∷ rest) =
    operands_left forms (record so_far { operands = so_far.operands ++ text ∷ [] }) rest
    ∙ ap (λ all. Ok (record so_far { operands = all })) (append_assoc so_far.operands (text ∷ []) rest)

pub operands_follow_dashes : OperandsFollowDashes
operands_follow_dashes forms so_far rest = operands_left forms so_far rest

as_operand : (forms : List OptionForm) (so_far : ReadArguments) (text : List ℕ) → is_operand text ≡ true
    → with_argument forms so_far Any text ≡ Ok (with_operand so_far text, Any)
as_operand forms so_far text operand = cond-false _ _ _ (operand_is_not_dashes text operand) ∙ cond-true _ _ _ operand

operands_read : (forms : List OptionForm) (so_far : ReadArguments) (args : List (List ℕ)) → list_all is_operand args ≡ true
    → read_after forms so_far Any args ≡ Ok (record so_far { operands = so_far.operands ++ args })
operands_read forms so_far [] all = ap (λ all. Ok (record so_far { operands = all })) (sym (append-nil so_far.operands))
operands_read forms so_far (text ∷ args) all =
    let two = and_parts _ _ all in
    ap (after_step (λ step. read_after forms step.0 step.1 args)) (as_operand forms so_far text two.0)
    ∙ operands_read forms (with_operand so_far text) args two.1
    ∙ ap (λ all. Ok (record so_far { operands = all })) (append_assoc so_far.operands (text ∷ []) args)

pub operands_are_read : OperandsAreRead
operands_are_read forms args all = operands_read forms (record { given = []; operands = [] }) args all

-- An option that needs no further argument, before an operand or after it.
option_moves : (forms : List OptionForm) (so_far : ReadArguments) (operand : List ℕ) (rest : List (List ℕ)) (form : OptionForm) (value : Option (List ℕ))
    → is_operand operand ≡ true → not (form.takes_value && is_none value) ≡ true
    → after_step (λ step. read_after forms step.0 step.1 rest) (with_option (with_operand so_far operand) form value)
    ≡ after_step (λ step. read_after forms step.0 step.1 (operand ∷ rest)) (with_option so_far form value)
option_moves forms so_far operand rest form (Some text) fits alone = by form.takes_value refl
  where
    by : (takes : Bool) → form.takes_value ≡ takes
        → after_step (λ step. read_after forms step.0 step.1 rest) (with_option (with_operand so_far operand) form (Some text))
        ≡ after_step (λ step. read_after forms step.0 step.1 (operand ∷ rest)) (with_option so_far form (Some text))
    by true e =
        ap (after_step (λ step. read_after forms step.0 step.1 rest)) (cond-true _ _ _ e)
        ∙ sym (ap (after_step (λ step. read_after forms step.0 step.1 (operand ∷ rest))) (cond-true _ _ _ e)
        ∙ ap (after_step (λ step. read_after forms step.0 step.1 rest)) (as_operand forms (with_given so_far form.name (Some text)) operand fits))
    by false e =
        ap (after_step (λ step. read_after forms step.0 step.1 rest)) (cond-false _ _ _ e)
        ∙ sym (ap (after_step (λ step. read_after forms step.0 step.1 (operand ∷ rest))) (cond-false _ _ _ e))
option_moves forms so_far operand rest form None fits alone = by form.takes_value refl
  where
    by : (takes : Bool) → form.takes_value ≡ takes
        → after_step (λ step. read_after forms step.0 step.1 rest) (with_option (with_operand so_far operand) form None)
        ≡ after_step (λ step. read_after forms step.0 step.1 (operand ∷ rest)) (with_option so_far form None)
    by true e = absurd (true≢false (sym (sym (ap (λ t. not (t && true)) e) ∙ alone)))
    by false e =
        ap (after_step (λ step. read_after forms step.0 step.1 rest)) (cond-false _ _ _ e)
        ∙ sym (ap (after_step (λ step. read_after forms step.0 step.1 (operand ∷ rest))) (cond-false _ _ _ e)
        ∙ ap (after_step (λ step. read_after forms step.0 step.1 rest)) (as_operand forms (with_given so_far form.name None) operand fits))

option_if_known_moves : (forms : List OptionForm) (so_far : ReadArguments) (operand text : List ℕ) (rest : List (List ℕ)) (found : Option OptionForm)
    → is_operand operand ≡ true → not (option_map_or (λ form. form.takes_value) found false && is_none (value_in text)) ≡ true
    → after_step (λ step. read_after forms step.0 step.1 rest) (with_option_if_known (with_operand so_far operand) found text)
    ≡ after_step (λ step. read_after forms step.0 step.1 (operand ∷ rest)) (with_option_if_known so_far found text)
option_if_known_moves forms so_far operand text rest None fits alone = refl
option_if_known_moves forms so_far operand text rest (Some form) fits alone = option_moves forms so_far operand rest form (value_in text) fits alone

pub options_move : OptionsMove
options_move forms so_far operand option rest fits alone =
    let parts = and_parts _ _ alone in
    let others = and_parts _ _ parts.1 in
    let step : (so_far : ReadArguments) → with_argument forms so_far Any option ≡ with_option_if_known so_far (form_of forms (name_in option)) option =
    λ so_far. as_option forms so_far option (not-true _ others.0) (not-true _ parts.0) in
    ap (after_step (λ step. read_after forms step.0 step.1 (option ∷ rest))) (as_operand forms so_far operand fits)
    ∙ ap (after_step (λ step. read_after forms step.0 step.1 rest)) (step (with_operand so_far operand))
    ∙ option_if_known_moves forms so_far operand option rest (form_of forms (name_in option)) fits others.1
    ∙ sym (ap (after_step (λ step. read_after forms step.0 step.1 (operand ∷ rest))) (step so_far))

-- The operands of a result.
abbrev operands_or_none : Result ReadArguments RefusedArgument → List (List ℕ)
operands_or_none (Ok read) = read.operands
operands_or_none (Err e) = []

no_refusal : {X : Type 0} (e : RefusedArgument) (read : ReadArguments) → Err e ≡ Ok read → X
no_refusal e read h = absurd (true≢false (sym (ap is_ok h)))

-- The operands of some arguments are those before them and then those among them.
abbrev Keeps : List OptionForm → List (List ℕ) → ReadArguments → Type 0
Keeps forms args read = (so_far : ReadArguments) → read_after forms so_far Any args ≡ Ok read → read.operands ≡ so_far.operands ++ filter is_operand args

option_keeps : (forms : List OptionForm) (so_far : ReadArguments) (rest : List (List ℕ)) (read : ReadArguments) (form : OptionForm) (value : Option (List ℕ))
    → Keeps forms rest read → not (form.takes_value && is_none value) ≡ true
    → after_step (λ step. read_after forms step.0 step.1 rest) (with_option so_far form value) ≡ Ok read
    → read.operands ≡ so_far.operands ++ filter is_operand rest
option_keeps forms so_far rest read form (Some text) keeps alone h = by form.takes_value refl
  where
    by : (takes : Bool) → form.takes_value ≡ takes → read.operands ≡ so_far.operands ++ filter is_operand rest
    by true e =
        keeps (with_given so_far form.name (Some text)) (sym (ap (after_step (λ step. read_after forms step.0 step.1 rest)) (cond-true _ _ _ e)) ∙ h)
    by false e =
        no_refusal (refused form.name (Some text) NoValue) read (sym (ap (after_step (λ step. read_after forms step.0 step.1 rest)) (cond-false _ _ _ e)) ∙ h)
option_keeps forms so_far rest read form None keeps alone h = by form.takes_value refl
  where
    by : (takes : Bool) → form.takes_value ≡ takes → read.operands ≡ so_far.operands ++ filter is_operand rest
    by true e = absurd (true≢false (sym (sym (ap (λ t. not (t && true)) e) ∙ alone)))
    by false e =
        keeps (with_given so_far form.name None) (sym (ap (after_step (λ step. read_after forms step.0 step.1 rest)) (cond-false _ _ _ e)) ∙ h)

option_if_known_keeps : (forms : List OptionForm) (so_far : ReadArguments) (text : List ℕ) (rest : List (List ℕ)) (read : ReadArguments) (found : Option OptionForm)
    → Keeps forms rest read → not (option_map_or (λ form. form.takes_value) found false && is_none (value_in text)) ≡ true
    → after_step (λ step. read_after forms step.0 step.1 rest) (with_option_if_known so_far found text) ≡ Ok read
    → read.operands ≡ so_far.operands ++ filter is_operand rest
option_if_known_keeps forms so_far text rest read None keeps alone h = no_refusal (refused (name_in text) None (expected_for (name_in text))) read h
option_if_known_keeps forms so_far text rest read (Some form) keeps alone h = option_keeps forms so_far rest read form (value_in text) keeps alone h

argument_keeps : (forms : List OptionForm) (so_far : ReadArguments) (text : List ℕ) (rest : List (List ℕ)) (read : ReadArguments)
    → Keeps forms rest read → (is_operand text || stands_alone forms text) ≡ true
    → read_after forms so_far Any (text ∷ rest) ≡ Ok read → read.operands ≡ so_far.operands ++ filter is_operand (text ∷ rest)
argument_keeps forms so_far text rest read keeps either h = by (is_operand text) refl
  where
    by : (operand : Bool) → is_operand text ≡ operand → read.operands ≡ so_far.operands ++ filter is_operand (text ∷ rest)
    by true e =
        keeps (with_operand so_far text) (sym (ap (after_step (λ step. read_after forms step.0 step.1 rest)) (as_operand forms so_far text e)) ∙ h)
        ∙ append_assoc so_far.operands (text ∷ []) (filter is_operand rest)
        ∙ ap (λ all. so_far.operands ++ all) (sym (cond-true _ _ _ e))
    by false e =
        let alone : stands_alone forms text ≡ true = sym (ap (λ b. b || stands_alone forms text) e) ∙ either in
        let parts = and_parts _ _ alone in
        let others = and_parts _ _ parts.1 in
        option_if_known_keeps forms so_far text rest read (form_of forms (name_in text)) keeps others.1
        (sym (ap (after_step (λ step. read_after forms step.0 step.1 rest)) (as_option forms so_far text (not-true _ others.0) e)) ∙ h)
        ∙ ap (λ all. so_far.operands ++ all) (sym (cond-false _ _ _ e))

all_keep : (forms : List OptionForm) (args : List (List ℕ)) (read : ReadArguments) → list_all (λ text. is_operand text || stands_alone forms text) args ≡ true
    → Keeps forms args read
all_keep forms [] read all = λ so_far h. sym (ap operands_or_none h) ∙ sym (append-nil so_far.operands)
all_keep forms (text ∷ args) read all =
    let two = and_parts _ _ all in
    λ so_far h. argument_keeps forms so_far text args read (all_keep forms args read two.1) two.0 h

pub operands_are_kept : OperandsAreKept
operands_are_kept forms args read all h = all_keep forms args read all (record { given = []; operands = [] }) h
