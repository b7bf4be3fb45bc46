use Rattle.std.proofs.Common.{rules, ◌≡◌, ◌∙◌, ◌++◌, ◌∷◌, [], sym, ap, map, List, true, false, append-nil}
use Rattle.wire_core.specs.Commands.{LogCommand, Granted}
use Rattle.lease_spec.specs.Table.{is_being}
use Rattle.manager_spec.specs.declared.marks.Marks.{Marks}
use Rattle.manager_spec.specs.Known.{marks_at, running}
use Rattle.manager_spec.specs.Proposal.{is_granted, holders, grant_due, mux_boot}
use Rattle.manager_log.proofs.DueLaws.{granted_none, granted_one}
use Rattle.manager_core.proofs.manager.Manager.add_grant.Goals as goal

pub returns-then-not-is_granted : goal.returns-then-not-is_granted
returns-then-not-is_granted c =
    let at : c.marks_at-marks.result ≡ marks_at c.args.self.now.lists.acks c.args.row.n = search rules in
    let said : is_granted c.args.self.now.config c.args.self.now.lists c.marks_at-marks.result ≡ false = search rules in
    let no : is_granted c.args.self.now.config c.args.self.now.lists (marks_at c.args.self.now.lists.acks c.args.row.n)
    ≡ false = ap (λ (m : Marks). is_granted c.args.self.now.config c.args.self.now.lists m) (sym at) ∙ said in
    sym (ap (λ (xs : List LogCommand). c.args.value.now ++ xs)
    (granted_none c.args.self.now.config c.args.self.now.lists c.args.row no) ∙ append-nil c.args.value.now)

pub returns : goal.returns
returns c =
    let at : c.marks_at-marks.result ≡ marks_at c.args.self.now.lists.acks c.args.row.n = search rules in
    let being : is_being c.args.row.phase ≡ true = search rules in
    let said : is_granted c.args.self.now.config c.args.self.now.lists c.marks_at-marks.result ≡ true = search rules in
    let yes : is_granted c.args.self.now.config c.args.self.now.lists (marks_at c.args.self.now.lists.acks c.args.row.n)
    ≡ true = ap (λ (m : Marks). is_granted c.args.self.now.config c.args.self.now.lists m) (sym at) ∙ said in
    let due : grant_due c.args.self.now.config c.args.self.now.lists c.args.row
    ≡ Granted c.args.row.n (map mux_boot (holders (running c.args.self.now.lists) c.marks_at-marks.result)) ∷ [] =
    granted_one c.args.self.now.config c.args.self.now.lists c.args.row being yes
    ∙ ap (λ (m : Marks). Granted c.args.row.n (map mux_boot (holders (running c.args.self.now.lists) m)) ∷ []) (sym at) in
    let named : c.as_slice-2.result.now ≡ map mux_boot (holders (running c.args.self.now.lists) c.marks_at-marks.result) =
    search rules in
    rw (due, sym named) c.push_granted.ensures.ok
