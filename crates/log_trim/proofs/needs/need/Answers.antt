use Rattle.std.proofs.Common.{◌<◌, ◌⊎◌, ℕ, length, true, ◌≡◌, subst, arith}
use Rattle.watch_arena.specs.Arena.{attached_at}
use Rattle.log_trim.specs.Found.{is_needed}
use Rattle.log_trim.proofs.FoundLemmas.{needs_more}
use Rattle.log_trim.proofs.needs.need.Goals as goal

pub loop-i-preserved : goal.loop-i-preserved
loop-i-preserved c =
    let n = c.need_var.ensures in
    let count = c.len_of-i-end.ensures.value in
    needs_more (attached_at c.args.arena.now c.args.clause.0) c.loop-i.i c.lit_of.result c.args.needed.now c.loop-i.needed c.need_var.new.needed
    (omega (arith, c.loop-i-test.true, count)) c.lit_of.ensures n.size n.keeps
    (subst (λ x. x < length c.need_var.new.needed → is_needed c.need_var.new.needed x ≡ true) c.var.ensures.value n.needed_)
    (subst (λ v. (x : ℕ) → is_needed c.need_var.new.needed x ≡ true → (is_needed c.loop-i.needed x ≡ true) ⊎ (v ≡ x)) c.var.ensures.value n.only)
    c.loop-i.invariant
