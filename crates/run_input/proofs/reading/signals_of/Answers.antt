use Rattle.outside_io.proofs.Results.{on_err_anyway}
use Rattle.run_input.proofs.MetLemmas.{on_ok, reads_one}
use Rattle.run_input.proofs.reading.signals_of.Goals as goal

pub returns-in-Ok-clause-reads : goal.returns-in-Ok-clause-reads
returns-in-Ok-clause-reads g c = on_ok c.signals_in.result _ c.in-Ok.ensures.reads

pub returns-in-Ok-clause-reads_err : goal.returns-in-Ok-clause-reads_err
returns-in-Ok-clause-reads_err g c = on_err_anyway c.signals_in.result _ (reads_one _ _ c.in-Ok.ensures.reads)
