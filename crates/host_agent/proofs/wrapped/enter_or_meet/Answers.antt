use Rattle.std.proofs.Common.{rules, ◌≡◌, List, Some, None, not, sym, subst}
use Rattle.agent_spec.specs.declared.connection.Connection.{Connection}
use Rattle.agent_spec.specs.Connections.{by_public, closed, has_private, private_key, public_key}
use Rattle.agent_spec.specs.Keys.{EntriesApart}
use Rattle.agent_spec.proofs.EntryLists.{closed_public_none, filtered_apart}
use Rattle.host_agent.proofs.wrapped.enter_or_meet.Goals as goal

pub enter-requires-then-ne-clause-apart : goal.enter-requires-then-ne-clause-apart
enter-requires-then-ne-clause-apart c =
    let left : c.forget.new.self.inbound ≡ closed (private_key c.in-Some.found) c.args.traffic.now.inbound = search rules in
    subst (EntriesApart c.args.cfg.now) (sym left)
    (filtered_apart c.args.cfg.now (λ x. not (has_private (private_key c.in-Some.found) x)) c.args.traffic.now.inbound
    c.requires.apart)

pub enter-requires-then-ne-clause-free : goal.enter-requires-then-ne-clause-free
enter-requires-then-ne-clause-free c =
    let left : c.forget.new.self.inbound ≡ closed (private_key c.in-Some.found) c.args.traffic.now.inbound = search rules in
    let found : by_public (public_key c.args.made.now) c.args.traffic.now.inbound ≡ Some c.in-Some.found = search rules in
    subst (λ (xs : List Connection). by_public (public_key c.args.made.now) xs ≡ None) (sym left)
    (closed_public_none c.args.cfg.now (public_key c.args.made.now) c.args.traffic.now.inbound c.in-Some.found
    c.requires.apart found)
