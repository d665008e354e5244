use Rattle.cdcl_core.proofs.given.exchange.Goals as goal

pub returns : goal.returns
returns c = record {
  size = c.swap.ensures.len;
  first = c.swap.ensures.by_index.0;
  second = c.swap.ensures.by_index.1;
  others = λ i d na nb. c.swap.ensures.by_index.2 i d na nb;
}
