use Rattle.log_trim.proofs.wanting.wanted_of.Goals as goal

pub returns-in-Least : goal.returns-in-Least
returns-in-Least c = rw c.in-Least.is c.least_lines.ensures
