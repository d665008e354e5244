use Rattle.unary_sum.proofs.sum.+build_tree.Given as goal

abbrev pub decreases-build_tree : goal.decreases-build_tree
decreases-build_tree l = l.depth
