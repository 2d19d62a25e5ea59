use Rattle.std.proofs.Common.{◌≡◌, ◌∙◌, ◌++◌, ap, sym, List, [], ◌∷◌, ℕ, length, filter, map, append_assoc, append-nil, arith}
use Rattle.std.proofs.lemmas.List.Elements.{filter-append}
use Rattle.libhyphen_files.proofs.Cuts.{cut}
use Rattle.libhyphen_files.proofs.SettingsLemmas.{not_empty, parts_of_text, parts_end, parts_go_on, parts_at_end}
use Rattle.libhyphen_files.proofs.settings.texts_between_commas.Goals as goal
use Rattle.libhyphen_files.proofs.settings.texts_between_commas.Goals.{then-text-i-eq44+in_ok-push_text, else-text-i-eq44}

-- A text goes over from those that are left to those that are read.
moved : (read new : List (List ℕ)) (part : List ℕ) (left more whole : List (List ℕ)) → new ≡ read ++ filter not_empty (part ∷ []) → left ≡ part ∷ more
    → read ++ filter not_empty left ≡ whole → new ++ filter not_empty more ≡ whole
moved read new part left more whole add is before =
    rw (add, append_assoc) (ap (λ ls. read ++ ls) (sym (filter-append not_empty (part ∷ []) more)) ∙ ap (λ ls. read ++ filter not_empty ls) (sym is) ∙ before)

pub loop-i-init : goal.loop-i-init
loop-i-init c = record {
  begun = omega arith;
  within = omega arith;
  texts = rw c.new-texts.ensures.items (parts_of_text c.args.text.now);
}

pub loop-i-preserved : goal.loop-i-preserved
loop-i-preserved c =
    elim c.if-text-i-eq44.branch [
      | then-text-i-eq44+in_ok-push_text w ↦ record {
        begun = omega arith;
        within = omega arith;
        texts = rw (w.texts-is, w.start-is) (moved _ _ (cut c.args.text.now c.loop-i.start c.loop-i.i) _ _ _ w.in_ok-push_text.ensures (parts_end c.args.text.now c.loop-i.start c.loop-i.i c.loop-i-test.true w.if-text-i-eq44.true) c.loop-i.invariant.texts);
      }
      | else-text-i-eq44 w ↦ record {
        begun = omega arith;
        within = omega arith;
        texts = rw (w.texts-is, w.start-is) (ap (λ ls. map (λ t. t.items) c.loop-i.texts.items ++ filter not_empty ls) (sym (parts_go_on c.args.text.now c.loop-i.start c.loop-i.i c.loop-i.invariant.begun c.loop-i-test.true w.if-text-i-eq44.false)) ∙ c.loop-i.invariant.texts);
      }
    ]

pub returns : goal.returns
returns c =
    sym (append-nil _) ∙ moved _ _ (cut c.args.text.now c.loop-i.start (length c.args.text.now)) _ [] _ c.in_ok-push_text-2.ensures (parts_at_end c.args.text.now c.loop-i.start c.loop-i.i (omega arith)) c.loop-i.invariant.texts
