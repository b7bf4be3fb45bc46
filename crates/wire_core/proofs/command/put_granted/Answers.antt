use Rattle.std.proofs.Common.{◌≡◌, ◌++◌, ◌∷◌, [], ℕ, List, append_assoc, arith}
use Rattle.wire_core.specs.Numbers.{AreBytes}
use Rattle.wire_core.proofs.MuxBootLaws.{length-pairs_of, flat_map-pairs_of}
use Rattle.wire_core.proofs.command.put_granted.Goals as goal

joined : (old n pairs : List ℕ) (kind count : ℕ)
    → old ++ kind ∷ [] ++ n ++ count ∷ [] ++ pairs ≡ old ++ kind ∷ (n ++ count ∷ [] ++ pairs)
joined old n pairs kind count = simp append_assoc

pub returns : goal.returns
returns c =
    let bytes : AreBytes c.args.pairs.now = λ k. omega (arith, c.type_inv.pairs k) in
    let count = length-pairs_of c.args.pairs.now in
    let spelled = flat_map-pairs_of c.args.pairs.now c.requires.whole bytes in
    rw (
      c.put_bytes.ensures.bytes,
      c.put_u8-2.ensures.bytes,
      c.put_u64.ensures.bytes,
      c.put_u8.ensures.bytes,
      count,
      spelled,
    ) (joined c.args.out.now.items _ c.args.pairs.now 2 _)
