use Rattle.std.proofs.Common.{◌≡◌, ◌∙◌, if◌then◌else◌, ℕ, Bool, true, false, List, IfOk, refl, sym, ap, subst}
use Rattle.std.specs.Prelude.{IsUtf8}
use Rattle.std.specs.Str.{is_utf8}
use Rattle.std.proofs.lemmas.Str.{IsUtf8-from_is_utf8, is_utf8-from_IsUtf8}
use Rattle.hyphenation_hyphenator.specs.Folding.{fold_case}
use Rattle.tex_files.specs.Spelling.{folded_text}
use Rattle.tex_files.proofs.spelling.folded.Goals as goal

good : (text same : List ℕ) → IsUtf8 text → same ≡ text → fold_case same ≡ folded_text text
good text same u e = ap fold_case e ∙ sym (by (is_utf8 text) (is_utf8-from_IsUtf8 text u))
  where
    by : (t : Bool) → t ≡ true → (if t then fold_case text else text) ≡ fold_case text
    by true h = refl
    by false h = absurd cc

kept : (text : List ℕ) → ¬ (IsUtf8 text) → text ≡ folded_text text
kept text bad = sym (by (is_utf8 text) (IsUtf8-from_is_utf8 text))
  where
    by : (t : Bool) → (t ≡ true → IsUtf8 text) → (if t then fold_case text else text) ≡ text
    by true h = absurd (bad (h refl))
    by false h = refl

pub returns-in-Ok : goal.returns-in-Ok
returns-in-Ok c = let h = c.in-Ok.ensures.cases in subst (λ (bytes : List ℕ). IfOk c.fold_text.result (λ found. found.items ≡ bytes)) (good c.args.text.now c.in-Ok.text.now h.1 h.0) c.fold_text.ensures

pub returns-in-Err : goal.returns-in-Err
returns-in-Err c = let h = c.in-Err.ensures.cases in subst (λ (bytes : List ℕ). IfOk c.from_slice.result (λ found. found.items ≡ bytes)) (kept c.args.text.now h.0) c.from_slice.ensures.items
