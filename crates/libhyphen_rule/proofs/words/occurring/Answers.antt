use Rattle.std.proofs.Common.{◌∙◌, ◌==◌, ℕ, List, false, ap, arith, refl}
use Rattle.std.specs.List.{list_any}
use Rattle.std.proofs.lemmas.List.{get_or-replicate, length-set, take_all}
use Rattle.libhyphen_rule.proofs.Beside.{occurring_more}
use Rattle.libhyphen_rule.proofs.words.occurring.Goals as goal

pub loop-byte-init : goal.loop-byte-init
loop-byte-init c = record { bytes = refl; each = λ b low. get_or-replicate 256 b false false low }

pub loop-byte-preserved : goal.loop-byte-preserved
loop-byte-preserved c =
    let n = c.loop-byte.byte-index in
    let long = c.loop-byte.invariant.bytes in
    record {
      bytes = length-set c.loop-byte.occurs _ _ ∙ long;
      each = λ b low.
          occurring_more c.loop-byte.occurs c.args.text.now n (omega arith) (omega (arith, long, c.type_inv.text n)) b
          (c.loop-byte.invariant.each b low);
    }

pub returns : goal.returns
returns c = λ b low.
    c.loop-byte.invariant.each b low
    ∙ ap (λ (bytes : List ℕ). list_any (λ byte. byte == b) bytes)
    (take_all c.loop-byte.byte-index c.args.text.now (omega arith))
