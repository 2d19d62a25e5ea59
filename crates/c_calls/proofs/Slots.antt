-- The machine values of a slot. Assumes `Logic`.
use Rattle.std.proofs.Common.{◌≡◌, ℕ, List, [], ◌∷◌, ◌++◌, refl, subst, rules}
use Rattle.std.specs.Prelude.{Option, Some, None, IsSome}
use seplogic.Ra.Ura.{Ura}
use mir.Raw.{raw as bare}
use mir.Val.{Val, vptr, vstruct, vcons, vnil, of_list}
use base.Logic.{never, fst∗}
use types.Logic.{Logic, sem}
use types.Kit.{Item, Goal, Seq, Step, step, ‵, ◌$◌, drop, fsplit, fjoin, fpick, fpack, rewrite, feq_i, feq_l}
use denote.RattleType.{Valss}
use denote.Builtin.{RawPtr}
use denote.Memory.{lone}
use denote.RawPtr.{Ptr, block_ptr, null_ptr, ptr_val, in_a_block}
use denote.Steps.{nothing}
use denote.Struct.Struct.{within}
use denote.Struct.Owning.{shape}
use Rattle.std_heap.specs.contracts.GlobalAllocator.TheImpl.{ghosts}
use Rattle.std_alloc.specs.Box.Ownership.{box_owns}
use Rattle.c_calls.specs.Held.{owned, the_heap}
use Rattle.c_calls.specs.declared.content.Content.{Content}
use Rattle.c_calls.specs.contracts.content.Content as content
use Rattle.c_calls.specs.contracts.handle.Slot as slot

abbrev pub alone : Val → Val
alone v = vstruct (vcons v vnil)

-- what there is
pub there : (kept : Option Content) → IsSome kept → (x : Content) × (kept ≡ Some x)
there (Some x) some = (x, refl)
there None some = search rules

module _ {M : Type 1} {𝓤 : Ura M} {𝓛 : Logic 𝓤} {K : Type 0} {Γ : List (Item 𝓤)} {G : Goal 𝓤 𝓛.H} where
  -- a full slot is its pointer, and the box there
  pub slot_out : K → (d : slot.the_row.Denot) (vs : List Val) (x : Content) → d.kept ≡ Some x
      → ((b o : ℕ) → vs ≡ alone (vptr b o) ∷ [] → Seq K 𝓛 (‵ (box_owns (ghosts.dealloc_token the_heap) content.the_row (block_ptr b o) x) ∷ Γ) G)
      → Seq K 𝓛 (‵ (slot.the_row.own_val d vs) ∷ Γ) G
  slot_out t d vs x is k =
      fsplit t $ fpick t (λ vss. fsplit t $ feq_l t (λ ev. fsplit t $ feq_l t (λ ep. drop t $
      rewrite t 0 (λ (kept : Option Content). ‵ (owned kept d.at)) is refl $
      in_a_block t d.at (λ p. box_owns (ghosts.dealloc_token the_heap) content.the_row p x) (fst∗ 𝓤 (never 𝓤) (sem 𝓛 (ghosts.dealloc_token the_heap (bare (lone content.the_row.mir)) null_ptr))) (λ b o e. k b o
      (subst (λ (p : Ptr). vs ≡ vstruct (of_list (ptr_val p ∷ [])) ∷ []) e (subst (λ (ps : List Val). vs ≡ vstruct (of_list (ps ++ [])) ∷ []) ep ev))))))

  -- and made of them
  pub slot_in : K → (p : Ptr) (kept : Option Content)
      → Step K 𝓛 (‵ (slot.the_row.own_val (record { at = p; kept = kept }) (alone (ptr_val p) ∷ [])) ∷ Γ) G (‵ (owned kept p) ∷ Γ) G
  slot_in t p kept = step (λ s.
      nothing t $ feq_i t (List Val) (ptr_val p ∷ []) (ptr_val p ∷ []) refl $ fjoin t $ feq_i t (List Val) (alone (ptr_val p) ∷ []) (alone (ptr_val p) ∷ []) refl $ fjoin t $
      fpack t (Valss (RawPtr ∷ [])) (within (shape slot.the_type) (p, tt) (alone (ptr_val p) ∷ [])) (ptr_val p ∷ [], tt) $ fjoin t $ s)
