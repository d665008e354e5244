use Rattle.std.proofs.Common.{◌+◌, length, sym, subst, arith}
use Rattle.cnf_core.specs.Added.{AddsBlock}
use Rattle.cnf_core.proofs.StepLemmas.{adds_longer}
use Rattle.cnf_core.proofs.BlockLemmas.{block_of_clauses}
use Rattle.drawing_cnf.specs.Expected.{drawing_vars}
use Rattle.law_core.specs.declared.parties.Law.{Law}
use Rattle.law_core.specs.Law.{instance_of}
use Rattle.law_core.specs.Choices.{law_size, law_clauses}
use Rattle.law_core.proofs.choices.add_law.Goals as goal

pub returns-in-Ordered : goal.returns-in-Ordered
returns-in-Ordered c =
    subst (λ (k : Law). AddsBlock c.add_ordered_law.result c.args.f.now c.add_ordered_law.new.f (law_size (instance_of k))
    (law_clauses c.args.g.now (drawing_vars c.args.g.now c.args.grid.now) c.args.grid.now.width (instance_of k) (c.args.f.now.vars + 1) c.args.unless.now)
    (length c.args.unless.now + 7))
    (sym c.in-Ordered.is) (block_of_clauses _ _ _ _ _ c.add_ordered_law.ensures.adds)

pub returns-in-Aligned : goal.returns-in-Aligned
returns-in-Aligned c =
    subst (λ (k : Law). AddsBlock c.add_aligned_law.result c.args.f.now c.add_aligned_law.new.f (law_size (instance_of k))
    (law_clauses c.args.g.now (drawing_vars c.args.g.now c.args.grid.now) c.args.grid.now.width (instance_of k) (c.args.f.now.vars + 1) c.args.unless.now)
    (length c.args.unless.now + 7))
    (sym c.in-Aligned.is) (block_of_clauses _ _ _ _ _ (adds_longer _ _ _ _ (length c.args.unless.now + 2) (length c.args.unless.now + 7) (omega arith)
    c.add_aligned_law.ensures.adds))

pub returns-in-Apart : goal.returns-in-Apart
returns-in-Apart c =
    subst (λ (k : Law). AddsBlock c.add_apart_law.result c.args.f.now c.add_apart_law.new.f (law_size (instance_of k))
    (law_clauses c.args.g.now (drawing_vars c.args.g.now c.args.grid.now) c.args.grid.now.width (instance_of k) (c.args.f.now.vars + 1) c.args.unless.now)
    (length c.args.unless.now + 7))
    (sym c.in-Apart.is) c.add_apart_law.ensures.adds

pub returns-in-Over : goal.returns-in-Over
returns-in-Over c =
    subst (λ (k : Law). AddsBlock c.add_over_law.result c.args.f.now c.add_over_law.new.f (law_size (instance_of k))
    (law_clauses c.args.g.now (drawing_vars c.args.g.now c.args.grid.now) c.args.grid.now.width (instance_of k) (c.args.f.now.vars + 1) c.args.unless.now)
    (length c.args.unless.now + 7))
    (sym c.in-Over.is) (block_of_clauses _ _ _ _ _ c.add_over_law.ensures.adds)

pub returns-in-Parted : goal.returns-in-Parted
returns-in-Parted c =
    subst (λ (k : Law). AddsBlock c.add_parted_law.result c.args.f.now c.add_parted_law.new.f (law_size (instance_of k))
    (law_clauses c.args.g.now (drawing_vars c.args.g.now c.args.grid.now) c.args.grid.now.width (instance_of k) (c.args.f.now.vars + 1) c.args.unless.now)
    (length c.args.unless.now + 7))
    (sym c.in-Parted.is) c.add_parted_law.ensures.adds
