use Rattle.std.proofs.Common.{◌≡◌, ◌==◌, ℕ, false, List, [], ◌∷◌, ◌++◌, ap, sym, ◌∙◌, append_assoc, if◌then◌else◌}
use Rattle.std.specs.List.{list_any}
use Rattle.c_calls.specs.Paths.{ended_path}
use Rattle.c_calls.proofs.paths.push_path.Goals as goal

ended : (old more new path : List ℕ) → more ≡ old ++ path → new ≡ more ++ 0 ∷ [] → list_any (λ byte. byte == 0) path ≡ false → new ≡ old ++ ended_path path
ended old more new path first second without =
    second ∙ ap (λ xs. xs ++ 0 ∷ []) first ∙ append_assoc old path (0 ∷ [])
    ∙ ap (λ b. old ++ (if b then [] else path ++ 0 ∷ [])) (sym without)

pub returns : goal.returns
returns c = ended c.args.text.now.items c.extend_from_slice.new.self.items c.push.new.self.items c.args.path.now c.in_ok-extend_from_slice.ensures.items c.in_ok-push.ensures.items (sym c.if-has_byte_0.ensures)
