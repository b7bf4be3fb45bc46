use Rattle.std.proofs.Common.{rules, ◌≡◌, true, ap, ◌∙◌}
use Rattle.manager_spec.specs.Known.{marks_at}
use Rattle.manager_log.specs.Pending.{has, is_settled}
use Rattle.manager_log.proofs.PendingLaws.{current_less, current_marked, current_more}
use Rattle.manager_log.proofs.pending.acknowledge.Goals as goal

pub returns-in_err-insert-clause-current : goal.returns-in_err-insert-clause-current
returns-in_err-insert-clause-current c = λ rules' a current.
    current_more _ _ rules' a _ _ c.insert.ensures.upto c.insert.ensures.others current

pub returns-in_err-set_marks-clause-current : goal.returns-in_err-set_marks-clause-current
returns-in_err-set_marks-clause-current c = λ rules' a current.
    let here : has c.insert.new.self.rows c.args.n ≡ true = search rules in
    current_marked _ c.args.n rules' a _ _ _ here c.set_marks.ensures.others
    (current_more _ _ rules' a _ _ c.insert.ensures.upto c.insert.ensures.others current)

pub returns-then-is_settled-clause-current : goal.returns-then-is_settled-clause-current
returns-then-is_settled-clause-current c = λ rules' a current.
    let here : has c.insert.new.self.rows c.args.n ≡ true = search rules in
    let marks : marks_at c.set_marks.new.acks.entries c.args.n ≡ c.args.marks = search rules in
    let settled : is_settled c.args.peers.now c.args.marks ≡ true = search rules in
    current_less _ _ c.args.n rules' a _ _ c.remove.ensures.upto c.remove.ensures.others
    (λ is. ap (is_settled c.args.peers.now) marks ∙ settled)
    (current_marked _ c.args.n rules' a _ _ _ here c.set_marks.ensures.others
    (current_more _ _ rules' a _ _ c.insert.ensures.upto c.insert.ensures.others current))

pub returns-else-is_settled-clause-current : goal.returns-else-is_settled-clause-current
returns-else-is_settled-clause-current c = λ rules' a current.
    let here : has c.insert.new.self.rows c.args.n ≡ true = search rules in
    current_marked _ c.args.n rules' a _ _ _ here c.set_marks.ensures.others
    (current_more _ _ rules' a _ _ c.insert.ensures.upto c.insert.ensures.others current)
