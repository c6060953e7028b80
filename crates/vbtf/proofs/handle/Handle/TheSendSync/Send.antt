-- A handle can be sent to another thread if the table can.
use Rattle.std.specs.Prelude.{ℕ, zero, suc, [], ◌∷◌}
use mir.Raw.{raw}
use base.Fraction.{full_share}
use base.Fml.{Fml, Share, ftrue}
use base.Shift.{Keyless}
use denote.Exit.{Exit, unchanged, leaves, hidden, under}
use denote.Memory.{lone}
use denote.RattleType.{RattleType}
use denote.Param.Send.{IsSend, IsSync, AllSend, Quiet, Common, part_keyless, owning_send, struct_send, sendable}
use denote.RawPtr.{Ptr, block_ptr, null_ptr, block_of, count_of, lies_at, in_block}
use denote.Struct.Struct.{exits_of}
use denote.Struct.Owning.{shape, fields, to}
use denote.Struct.Lending.{lent_at}
use Rattle.std.proofs.Crossing.{frees}
use Rattle.vbtf.specs.declared.opened.Opened.{Opened}
use Rattle.vbtf.specs.contracts.opened.Opened as opened
use Rattle.vbtf.proofs.opened.Opened.TheSendSync.{the_send, the_sync}
use Rattle.vbtf.specs.Held.{held}
use Rattle.vbtf.specs.contracts.handle.Handle.{the_row, the_type}

quiet : {D X : Type 0} (lower : D → X) (e : Exit X) → Quiet e → Quiet (hidden (under lower e))
quiet lower unchanged q = λ x w. tt
quiet lower (leaves L l S s r₀) q = λ d. q (lower d)

lies : (R : RattleType) → IsSend R → (p : Ptr) (x : R.Denot) → Keyless (lies_at R full_share p x)
lies R s (block_ptr b o) x = part_keyless R s full_share x b o
lies R s null_ptr x = tt

inside : (p : Ptr) (F : Fml) → Keyless F → Keyless (in_block p F)
inside (block_ptr b o) F k = k
inside null_ptr F k = tt

seen : (R : RattleType) → IsSync R → (p : Ptr) (x : R.Denot) → Common (lent_at R p x)
seen R s p x κ = (inside p ftrue tt, s.shared x (block_of p) (count_of p) κ)

held_keyless : IsSend opened.the_row → IsSync opened.the_row → (p : Ptr) (n : ℕ) (t : Opened) (life : ℕ) (share : Share) → Keyless (held p n t life share)
held_keyless s y p zero t life share = tt
held_keyless s y p (suc zero) t life share = (lies opened.the_row s p t, frees.frees (record { memory = record { seal = tt } }) (raw (lone opened.the_row.mir)) p)
held_keyless s y p (suc (suc n)) t life share = (tt, seen opened.the_row y p t (life ∷ []))

pub send : IsSend the_row
send =
    let all : AllSend (fields the_type) = (search sendable, (search sendable, tt)) in
    owning_send the_type all (λ d. held_keyless the_send the_sync d.at d.state d.opened d.life d.share)
    (λ k. quiet (to the_type) (exits_of k (fields the_type)) ((struct_send (shape the_type) all).leaving k))
