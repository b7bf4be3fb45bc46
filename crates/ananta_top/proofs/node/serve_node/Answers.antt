use Rattle.ananta_top.proofs.node.serve_node.Goals as goal

pub returns-in-Ok-clause-node : goal.returns-in-Ok-clause-node
returns-in-Ok-clause-node g c = rw (c.in-Ok.ensures) c.find_and_serve.ensures.node

pub returns-in-Ok-clause-says : goal.returns-in-Ok-clause-says
returns-in-Ok-clause-says g c = rw (c.in-Ok.ensures) c.find_and_serve.ensures.says
