use Rattle.std.proofs.Common.{string_bytes}
use Rattle.std.proofs.Common.{Some}
use Rattle.zerotrie_session.proofs.SessionLemmas.{performed_chosen, performed_added, performed_asked, performed_listed, answer_is}
use Rattle.zerotrie_session.proofs.answer.Session.answer.Goals as goal

pub returns-in-Kind : goal.returns-in-Kind
returns-in-Kind c = λ s h. rw c.in-Kind.is (performed_chosen (Some s) c.new.result c.in-Kind.choice (string_bytes c.args.output.now) c.new.ensures)

pub returns-in_ok-add-in-Add : goal.returns-in_ok-add-in-Add
returns-in_ok-add-in-Add c = λ s h. rw c.in-Add.is (performed_added c.add.new.self s c.in-Add.value c.in-Add.key.now (string_bytes c.args.output.now) (c.in_ok-add-in-Add.ensures s h))

pub returns-in_ok-write_number-in-Query : goal.returns-in_ok-write_number-in-Query
returns-in_ok-write_number-in-Query c = λ s h. rw c.in-Query.is
    (performed_asked c.args.self.now s c.in-Query.key.now c.get.result (string_bytes c.args.output.now) (string_bytes c.write_number.new.output) h (answer_is c.args.self.now s c.in-Query.key.now c.get.result h (c.get.ensures _)) c.in_ok-write_number-in-Query.ensures)

pub returns-in_ok-write_list-in-List : goal.returns-in_ok-write_list-in-List
returns-in_ok-write_list-in-List c = λ s h. rw c.in-List.is
    (performed_listed c.args.self.now s (string_bytes c.args.output.now) (string_bytes c.write_list.new.output) h c.in_ok-write_list-in-List.ensures)
