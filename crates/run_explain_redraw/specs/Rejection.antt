-- What an answer without a station and former points says; for private contracts.
use Rattle.std.specs.Prelude.{ℕ, List, ⊤}
use Rattle.run_input.specs.declared.status.Status.{Status}
use Rattle.run_explain_redraw.specs.declared.judging.Rejected.{Rejected}
use Rattle.run_explain_redraw.specs.declared.judging.Rejected.TheVariants.{With, Memory}
use Rattle.run_explain_redraw.specs.Judged.{HaveFault}

-- the status and the text of what is answered have this property
abbrev pub RejectedWith : (Status → List ℕ → Type 0) → Rejected → Type 0
RejectedWith P (With reply) = P reply.status reply.text.items
RejectedWith P Memory = ⊤

-- the answer is one to a fault of three files with these bytes
abbrev pub RejectsFault : (bytes old sheet : List ℕ) → Rejected → Type 0
RejectsFault bytes old sheet r = RejectedWith (HaveFault bytes old sheet) r
