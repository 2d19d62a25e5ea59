-- `into_box` makes the box again, of the pointer.
use Rattle.std.proofs.Common.{◌≡◌, List, [], ◌∷◌, ◌++◌, refl, sym, ap, ◌∙◌, subst}
use Rattle.std.specs.Prelude.{Some, IsSome}
use lib.Dec.{T}
use mir.Val.{Val, vptr, has_ty, WT}
use base.Fraction.{full_share}
use base.Logic.{SProp, ent, emp, id⊢}
use base.Fml.{ftrue, flft}
use prog.Wp.{WpFn}
use types.Kit.{‵, raw, ◌⊛◌, some, later, at_ret, ◌$◌, ◌∵◌, !, qed, by, move, keep, drop, split, split3, join, fsplit, fjoin, feq_i, pick, suffices, use0, use1, await, rewrite}
use types.Run.{stop, fld, of_opd, no_more, and_then, first, blocks, exec, returns, enter}
use types.ByLocal.{alloc_all, pass_all, free_all, look_at, get, get_in, sets, lands_last, env}
use types.Part.{sub, whole}
use contract.Monad.{fact, fact_i}
use contract.BorrowLft.{◌⊑◌, ⊑_refl}
use contract.Running.{tables}
use denote.Exit.{yes}
use denote.RattleType.{owns}
use denote.Signature.{types_at, plain}
use denote.RawPtr.{block_ptr}
use denote.Steps.{nothing, heard, only}
use denote.Triple.Call.{calls_at_last}
use denote.Triple.Clauses.{Lasts, lasts}
use denote.Triple.Spec.{triple_of}
use denote.Triple.Walked.{Stays, stay_dropped, walk_of}
use Rattle.core.proofs.alloc.Calls.{Goes-blank, handle_tells}
use Rattle.core.proofs.alloc.Shapes.{after}
use Rattle.core.proofs.atomic.Steps.{fm}
use Rattle.std.proofs.raw_atomic.Walks.{proved_at, leaves}
use Rattle.std_alloc.proofs.BoxSteps.Form.{B, box_ty, box_typed, D}
use Rattle.std_alloc.proofs.BoxSteps.Steps.{box_out, box_in}
use Rattle.std_alloc.specs.contracts.boxed.Box.from_raw as from
use Rattle.std_alloc.proofs.boxed.Box.from_raw.Met as from_met
use Rattle.std_heap.specs.contracts.Global as heap
use Rattle.std_heap.specs.contracts.GlobalAllocator.TheImpl.{ghosts, dict}
use Rattle.std_heap.proofs.GlobalAllocator.TheImpl.Met.{passed}
use Rattle.c_calls.specs.contracts.content.Content as content
use Rattle.c_calls.proofs.Boxes.{E, arg, heap_arg_laws, content_arg_laws, no_drop, heap_dropped}
use Rattle.c_calls.proofs.Slots.{alone, slot_out, there}
use Rattle.c_calls.specs.contracts.handle.Slot as slot
use Rattle.c_calls.specs.contracts.handle.Slot.into_box as f
use Rattle.c_calls.proofs.handle.Slot.into_box.Statement.{statement}
use Rattle.c_calls.proofs.handle.Slot.into_box.Code as code

abbrev stayed : Stays f.ended.signature.params f.ended.kept
stayed = (stay_dropped (plain (λ _. slot.the_row)) yes, (stay_dropped (plain (λ _. heap.the_row)) yes, tt))

pub into_box_spec : {M : Type 1} → statement M
into_box_spec {M} 𝓤 𝓛 𝓜 𝓡 wired =
    let H = 𝓛.H in let 𝓣 = tables 𝓤 H 𝓜 𝓡 𝓡.env in let c = f.clauses 𝓛 𝓜.mem 𝓡.returns in let fn = code.function in
    let k = triple_of 𝓛 (from.signature (arg content.the_row) (arg heap.the_row) ghosts dict no_drop) (from.spec (arg content.the_row) (arg heap.the_row) ghosts dict no_drop 𝓛 𝓜.mem 𝓡.returns) in
    let met = from_met.met 𝓤 𝓛 𝓜 𝓡 (code.calls-std_alloc::boxed::Box::from_raw 𝓡.env wired) (arg content.the_row) (arg heap.the_row) content_arg_laws heap_arg_laws ghosts dict no_drop
    (passed 𝓡.env (code.calls-std_heap::GlobalAllocator::allocate 𝓡.env wired) (code.calls-std_heap::GlobalAllocator::deallocate 𝓡.env wired) (code.calls-std_heap::GlobalAllocator::grow 𝓡.env wired) (code.calls-std_heap::GlobalAllocator::shrink 𝓡.env wired) M 𝓤 𝓛 𝓜 𝓡)
    (heap_dropped 𝓡.env (code.calls-c_calls::Destruct++none::drop 𝓡.env wired) M 𝓤 𝓛 𝓜 𝓡) in
    proved_at 𝓛 f.ended stayed c 𝓜 𝓡 (Goes-blank 𝓛 0 (plain (λ _. slot.the_row)) yes (λ κs x w. tt), (Goes-blank 𝓛 0 (plain (λ _. heap.the_row)) yes (λ κs x w. tt), tt)) f.Key.name fn (code.unfolded 𝓤 H 𝓜 𝓡 wired) (λ z are.
    let d = z.0.3.0 in let a = z.0.3.1.0 in let Post : Val → SProp 𝓤 = (walk_of 𝓛 f.ended stayed c).post z in let Run : List Val → List Val → SProp 𝓤 = λ ws us. WpFn 𝓤 H 𝓣.C 𝓣.Λ fn (ws ++ (us ++ [])) Post in
    qed 𝓛 ((‵ ftrue ⊛ ‵ (owns (types_at f.ended.signature.params z.0.0) z.0.3 z.0.4)) ∷ raw (fact 𝓤 (IsSome d.kept)) ∷ []) ∵ move ! (1 ∷ []) $ heard ! (IsSome d.kept) (λ full.
    let x = (there d.kept full).0 in let is = (there d.kept full).1 in
    split ! $ drop ! $ fsplit ! $ slot_out ! d z.0.4.0 x is (λ b o ws. move ! (1 ∷ []) $ fsplit ! $ handle_tells E.al ! a z.0.4.1.0 (λ h us fits.
    -- [the allocator; nothing; the box]
    let y : k.Ghost = ((([], ([], tt)), (full_share, (full_share, tt)), tt, (a, (block_ptr b o, tt)), (h ∷ [], (vptr b o ∷ [], tt))), x) in
    suffices ! (Run (alone (vptr b o) ∷ []) (h ∷ [])) (subst (λ (p : List Val × List Val). ent 𝓤 (Run (alone (vptr b o) ∷ []) (h ∷ [])) (Run p.0 p.1)) (λ i. (sym ws i, sym us i)) (id⊢ 𝓤 (Run (alone (vptr b o) ∷ []) (h ∷ [])))) $
    enter ! 𝓣.C 𝓣.Λ fn (alone (vptr b o) ∷ h ∷ []) Post $ alloc_all ! (λ l. pass_all ! refl ((tt, (tt, tt)), (fits, tt)) $
    sets ! (of_opd ! (get_in ! (fld ! refl (stop !)) (sub ! 0 refl (whole !)))) refl (tt, tt) $ sets ! (of_opd ! (get ! refl)) refl (tt, tt) $ first ! $ blocks ! $
    -- [what the call asks for: the box; then the two arguments, and tokens of lifetimes that never end]
    move ! (2 ∷ []) $ use0 𝓛 (raw (fact 𝓤 ([] ⊑ heap.the_row.lives))) (fact_i 𝓤 _ (emp 𝓤) (⊑_refl [])) $ join ! $ use0 𝓛 (raw (fact 𝓤 ([] ⊑ content.the_row.lives))) (fact_i 𝓤 _ (emp 𝓤) (⊑_refl [])) $ join ! $
    move ! (2 ∷ []) $ feq_i ! (List Val) (vptr b o ∷ []) (vptr b o ∷ []) refl $ fjoin ! $ move ! (2 ∷ 0 ∷ []) $ fjoin ! $
    nothing ! $ use0 𝓛 (‵ (flft [] full_share)) (𝓛.lfts.lft-nil full_share) $ join ! $ use0 𝓛 (‵ (flft [] full_share)) (𝓛.lfts.lft-nil full_share) $ join ! $ join ! $ join ! $ use1 𝓛 (raw (k.pre y)) (id⊢ 𝓤 _) $
    calls_at_last ! (fm 𝓛 𝓜 𝓡) k met y (and_then ! (get ! refl) (and_then ! (get ! refl) (no_more !))) (λ u. let told = from.ended (arg content.the_row) (arg heap.the_row) ghosts dict no_drop in
    use1 𝓛 (later (some (λ (r : D E). ((‵ (flft [] full_share) ⊛ ‵ (flft [] full_share) ⊛ ‵ ftrue) ⊛ ‵ ((B E).own_val r (u ∷ []))) ⊛ some (λ (ls : Lasts told y.0.0 y.0.3). ‵ (lasts told y.0.0 y.0.3 ls) ⊛ (raw (fact 𝓤 (r.value ≡ x)) ⊛ raw (fact 𝓤 (r.alloc ≡ a))))))) (id⊢ 𝓤 (k.post y u)) $
    await ! tt $ pick ! (λ r. split ! $ move ! (1 ∷ []) $ pick ! (λ _. split3 ! $ drop ! $ heard ! (r.value ≡ x) (λ same. drop ! $ split ! $ drop ! $ box_out E ! r (u ∷ []) (λ b' o' h' at wu fits'. box_in E ! r b' o' r.value at refl $ rewrite ! 0 (λ (vs : List Val). ‵ ((B E).own_val r vs)) (sym wu) refl $
    let typed : T (has_ty (box_ty E) u) × WT u = subst (λ (v : Val). T (has_ty (box_ty E) v) × WT v) (sym (ap only wu)) (box_typed E h' b' o' fits') in let Ev = env fn.locals l in
    lands_last ! refl typed $ exec ! 𝓣.C 𝓣.Λ Ev (after 3 fn.body) (at_ret Ev Post) $ sets ! (of_opd ! (get ! refl)) refl typed $
    returns ! (look_at ! 0 refl) $ free_all ! refl $ keep ! (0 ∷ []) $
    use0 𝓛 (raw (fact 𝓤 (d.kept ≡ Some r.value))) (fact_i 𝓤 (d.kept ≡ Some r.value) (emp 𝓤) (is ∙ ap Some (sym same))) $ nothing ! $ nothing ! $ fjoin ! $ nothing ! $ fjoin ! $ nothing ! $ move ! (0 ∷ 1 ∷ 3 ∷ 2 ∷ []) $
    by ! (leaves 𝓛 f.ended stayed c z u r (tt, (tt, tt)) (tt, (tt, tt)))))))))))))
