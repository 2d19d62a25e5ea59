use Rattle.std.proofs.Common.{◌∙◌, ◌∷◌, [], ap, sym, subst, drop, arith, List, ℕ}
use Rattle.hyphenation_reader.specs.Private.Builder.{HasHead}
use Rattle.hyphenation_grammar.specs.Judging.{fault_after}
use Rattle.hyphenation_grammar.specs.Lines.{lines_of}
use Rattle.hyphenation_reader.specs.Refusals.{IsRefusal}
use Rattle.hyphenation_reader.proofs.JudgingHead.{has_head, first_refused, no_third, second_refused, third_refused}
use Rattle.hyphenation_reader.proofs.ReadingLines.{refused}
use Rattle.hyphenation_reader.proofs.reader.read_head.Goals as goal

pub returns-clause-says : goal.returns-clause-says
returns-clause-says c =
    let first = c.in-Some.first.now in
    let second = c.in-Some-next_line.second.now in
    let third = c.in-Some-next_line-2.third.now in
    let lines = c.in-Some.ensures.first ∙ ap (λ (r : List (List ℕ)). first ∷ r) (c.in-Some-next_line.ensures.first ∙ ap (λ (r : List (List ℕ)). second ∷ r) c.in-Some-next_line-2.ensures.first) in
    subst (λ (ls : List (List ℕ)). HasHead c.args.form ls c.in_ok-language.language (c.in_ok-left.left, c.in_ok-left.right)) (sym lines)
    (has_head c.args.form first c.in_ok-read_first.ensures.passes second c.in_ok-language.language c.in_ok-language.ensures.says c.in_ok-language.ensures.passes
    third (c.in_ok-left.left, c.in_ok-left.right) (lines_of c.in-Some-next_line-2.rest.now) c.in_ok-left.ensures.says c.in_ok-left.ensures.passes)

pub returns-clause-rest : goal.returns-clause-rest
returns-clause-rest c =
    let first = c.in-Some.first.now in
    let second = c.in-Some-next_line.second.now in
    let lines = c.in-Some.ensures.first ∙ ap (λ (r : List (List ℕ)). first ∷ r) (c.in-Some-next_line.ensures.first ∙ ap (λ (r : List (List ℕ)). second ∷ r) c.in-Some-next_line-2.ensures.first) in
    record {
      lines = ap (λ (ls : List (List ℕ)). drop 3 ls) lines;
      utf8 = λ u. (c.in-Some-next_line-2.ensures.utf8 (c.in-Some-next_line.ensures.utf8 (c.in-Some.ensures.utf8 u).1).1).1;
      shorter = omega (arith, c.in-Some.ensures.shorter, c.in-Some-next_line.ensures.shorter, c.in-Some-next_line-2.ensures.shorter);
    }

pub returns-in_err-language-clause-refused : goal.returns-in_err-language-clause-refused
returns-in_err-language-clause-refused c =
    let first = c.in-Some.first.now in
    let second = c.in-Some-next_line.second.now in
    let lines = c.in-Some.ensures.first ∙ ap (λ (r : List (List ℕ)). first ∷ r) c.in-Some-next_line.ensures.first in
    refused c.from_residual-in_err-language.result c.in_err-language.field-0.0 _ _ c.from_residual-in_err-language.ensures
    (subst (λ (ls : List (List ℕ)). IsRefusal c.in_err-language.field-0.0 (fault_after c.args.form [] ls)) (sym lines)
    (second_refused c.args.form first c.in_ok-read_first.ensures.passes second (lines_of c.in-Some-next_line.rest.now) c.in_err-language.field-0.0 c.in_err-language.ensures.refused))

pub returns-in_err-left-clause-refused : goal.returns-in_err-left-clause-refused
returns-in_err-left-clause-refused c =
    let first = c.in-Some.first.now in
    let second = c.in-Some-next_line.second.now in
    let third = c.in-Some-next_line-2.third.now in
    let lines = c.in-Some.ensures.first ∙ ap (λ (r : List (List ℕ)). first ∷ r) (c.in-Some-next_line.ensures.first ∙ ap (λ (r : List (List ℕ)). second ∷ r) c.in-Some-next_line-2.ensures.first) in
    refused c.from_residual-in_err-left.result c.in_err-left.field-0.0 _ _ c.from_residual-in_err-left.ensures
    (subst (λ (ls : List (List ℕ)). IsRefusal c.in_err-left.field-0.0 (fault_after c.args.form [] ls)) (sym lines)
    (third_refused c.args.form first c.in_ok-read_first.ensures.passes second c.in_ok-language.language c.in_ok-language.ensures.says c.in_ok-language.ensures.passes
    third (lines_of c.in-Some-next_line-2.rest.now) c.in_err-left.field-0.0 c.in_err-left.ensures.refused))

pub returns-in_err-read_first-clause-refused : goal.returns-in_err-read_first-clause-refused
returns-in_err-read_first-clause-refused c =
    refused c.from_residual.result c.in_err-read_first.field-0.0 _ _ c.from_residual.ensures
    (subst (λ (ls : List (List ℕ)). IsRefusal c.in_err-read_first.field-0.0 (fault_after c.args.form [] ls)) (sym c.in-Some.ensures.first)
    (first_refused c.args.form c.in-Some.first.now (lines_of c.in-Some.rest.now) c.in_err-read_first.field-0.0 c.in_err-read_first.ensures.refused))

pub returns-in_default-next_line-2-clause-refused : goal.returns-in_default-next_line-2-clause-refused
returns-in_default-next_line-2-clause-refused c =
    let first = c.in-Some.first.now in
    let second = c.in-Some-next_line.second.now in
    let lines = c.in-Some.ensures.first ∙ ap (λ (r : List (List ℕ)). first ∷ r) (c.in-Some-next_line.ensures.first ∙ ap (λ (r : List (List ℕ)). second ∷ r) c.in_default-next_line-2.ensures.none) in
    ap (fault_after c.args.form []) lines ∙ no_third c.args.form first c.in_ok-read_first.ensures.passes second c.in_ok-language.language c.in_ok-language.ensures.says c.in_ok-language.ensures.passes
