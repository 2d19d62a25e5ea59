-- A dictionary's box, as the kit's lemmas on boxes take it, and what is known of the two drops that its calls take.
use mathlib.Core.Path.{refl}
use mathlib.Core.List.{[], ◌∷◌}
use mir.Raw.{raw as raw_ty}
use seplogic.Ra.Ura.{Ura}
use mir.Syntax.{Callee, Dict, impl, tnil, tcons, dnil, method, no_args}
use base.Logic.{sep, emp, emp∗, comm∗, via}
use base.Fml.{ftrue, fsep}
use prog.Model.{Model}
use prog.Routine.{Env}
use prog.Wired.{Wired}
use contract.Running.{Running}
use types.Logic.{Logic, sem}
use contract.Monad.{fact}
use contract.BorrowLft.{◌⊑◌}
use types.Kit.{raw, ◌$◌, ◌∵◌, !, qed, keep, join, show, done}
use denote.Param as Param
use denote.Param.{layout}
use denote.Param.Laws.{Laws, arg_laws}
use denote.Exit.{no}
use denote.RattleType.{RattleType}
use denote.Param.Glue as glue
use denote.Param.NoDrop.{glues}
use denote.Steps.{nothing}
use denote.Triple.Carry.{spared, beside}
use denote.Triple.Spec.{Spec, triple_of}
use denote.Triple.Table.{run_framed, widened}
use Rattle.std_alloc.proofs.BoxSteps.Form.{Bx}
use Rattle.std_heap.specs.contracts.Global as heap
use Rattle.std_heap.specs.contracts.GlobalAllocator.TheImpl.{ghosts, dict}
use Rattle.std_heap.proofs.Global.TheLaws as heap_laws
use Rattle.c_calls.proofs.Destruct++none.drop.Code as none_code
use Rattle.c_calls.proofs.Destruct++none.drop.Symbol as none_symbol
use Rattle.c_calls.specs.contracts.content.Content as content
use Rattle.c_calls.proofs.content.Content.TheLaws as content_laws
use Rattle.c_calls.specs.contracts.c_calls++content++Content+Destruct.drop as let_go
use Rattle.c_calls.proofs.c_calls++content++Content+Destruct.drop.Symbol as let_go_symbol
use Rattle.c_calls.proofs.c_calls++content++Content+Destruct.drop.Met as let_go_met

-- a type as the argument of a generic call
abbrev pub arg : RattleType → RattleType
arg R = Param.arg (raw_ty (layout R)) no R

-- the allocator's handle needs no drop
abbrev pub no_drop : Dict
no_drop = impl ("c_calls::Destruct++none::drop" ∷ []) (tcons (layout (arg heap.the_row)) tnil) dnil

abbrev pub lets_go : Dict
lets_go = impl ("c_calls::c_calls++content++Content+Destruct::drop" ∷ []) tnil dnil

pub heap_arg_laws : Laws (arg heap.the_row)
heap_arg_laws = arg_laws (raw_ty (layout heap.the_row)) no heap.the_row heap_laws.the_row_laws refl

pub content_arg_laws : Laws (arg content.the_row)
content_arg_laws = arg_laws (raw_ty (layout content.the_row)) no content.the_row content_laws.the_row_laws refl

-- nothing is done to let the handle go
pub heap_dropped : (γ : Env) → Wired γ none_symbol.code → glue.Bound γ (arg heap.the_row) no_drop
unfolding none_code.code
heap_dropped γ wired = glues "c_calls::Destruct++none::drop" γ wired (arg heap.the_row) heap_arg_laws

module _ {M : Type 1} (𝓤 : Ura M) (𝓛 : Logic 𝓤) (𝓜 : Model 𝓤 𝓛.H) (𝓡 : Running 𝓤 𝓛.H 𝓜) where
  abbrev key : Callee
  key = method lets_go 0 no_args

  abbrev does : Spec 𝓤 let_go.signature
  does = let_go.spec 𝓛 𝓜.mem 𝓡.returns

  -- the same under the lifetime that a type argument has
  abbrev longer : Spec 𝓤 (glue.signature (arg content.the_row))
  longer κs a = record { ghost = Unit {0}; requires = λ g. sep 𝓤 (fact 𝓤 (κs.0 ⊑ content.the_row.lives)) ((does tt a).requires g); ensures = λ g r. (does tt a).ensures g r }

  pub content_dropped : Wired 𝓡.env let_go_symbol.code → glue.Met 𝓛 𝓜 𝓡 𝓡.env (arg content.the_row) lets_go
  content_dropped wired =
      let r = 𝓡.env key in let run = 𝓡.run r in let framed = run_framed 𝓤 𝓛.H 𝓜 𝓡 r in
      let met = widened 𝓤 𝓛.H (triple_of 𝓛 let_go.signature does) 𝓜 𝓡 𝓡.env (𝓡.env let_go_symbol.name) r (let_go_symbol.as_method 𝓡.env wired key refl) (let_go_met.met 𝓤 𝓛 𝓜 𝓡 wired) in
      beside 𝓛 (glue.signature (arg content.the_row)) run framed longer (glue.spent 𝓛 (arg content.the_row)) (λ κs a g. g) (λ κs a g. emp 𝓤)
      (λ κs a g. let P = (longer κs a).requires g in via 𝓤 (sep 𝓤 (emp 𝓤) P) (emp∗ 𝓤 P) (comm∗ 𝓤 (emp 𝓤) P))
      (λ κs a g x. qed 𝓛 (raw ((longer κs a).ensures g x) ∷ raw (emp 𝓤) ∷ []) ∵ keep ! [] $ show ! (λ (_ : Unit {0} × Unit {0}). sep 𝓤 (sem 𝓛 (fsep ftrue ftrue)) (emp 𝓤)) (tt, tt) $
      nothing ! $ nothing ! $ nothing ! $ join ! $ done !)
      (spared 𝓛 let_go.signature run framed 1 (content.the_row.lives, tt) does met)

-- the box by its types as they are declared
abbrev pub E : Bx
E = record {
  row = content.the_row;
  laws = content_laws.the_row_laws;
  al = record { row = heap.the_row; laws = heap_laws.the_row_laws; g = ghosts; d = dict; drops = no_drop };
}
