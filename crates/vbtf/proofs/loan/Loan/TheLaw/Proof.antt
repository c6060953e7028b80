-- A `&` to a loan borrows its share of the token, and so reaches the value. Assumes `Logic`.
use denote.RattleType.{RattleType}
use denote.Param.Laws.{Laws}
use denote.Param.Shared.{copy_shared}
use denote.Struct.Field.{RawPtr-field}
use denote.Struct.Laws.{RawPtr-copy}
use denote.Struct.Lending.{of_Lends, lent_at, lent_at_shr_laws}
use Rattle.vbtf.specs.contracts.loan.Loan as C
use Rattle.vbtf.proofs.loan.Loan.TheLaw.Statement.{statement}
use Rattle.vbtf.proofs.Sharing.{Lends-loan}

pub shares : (T : RattleType) (L : Laws T) → statement T L
shares T L = of_Lends (C.struct T) (C.the_codes T.Denot T.coded) (C.the_heap T) (C.the_lent T)
    (λ d p. lent_at_shr_laws T L.shr_laws d.at d.value) (copy_shared RawPtr-field RawPtr-copy, tt)
    (λ M 𝓤 𝓛 d p. Lends-loan 𝓛 (lent_at T d.at d.value) (lent_at_shr_laws T L.shr_laws d.at d.value) d.life d.share (C.the_row T).lives)
