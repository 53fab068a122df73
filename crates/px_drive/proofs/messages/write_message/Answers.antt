use Rattle.px_drive.proofs.messages.write_message.Goals as goal

pub returns-in-Usage-clause-writes : goal.returns-in-Usage-clause-writes
returns-in-Usage-clause-writes g c = rw c.in-Usage.is c.write_line-in-Usage.ensures.writes

pub returns-in-Rejected-clause-writes : goal.returns-in-Rejected-clause-writes
returns-in-Rejected-clause-writes g c = rw c.in-Rejected.is c.write_rejected.ensures.writes

pub returns-in-WriteFault-clause-writes : goal.returns-in-WriteFault-clause-writes
returns-in-WriteFault-clause-writes g c = rw c.in-WriteFault.is c.write_line-in-WriteFault.ensures.writes

pub returns-in-ReadFault-clause-writes : goal.returns-in-ReadFault-clause-writes
returns-in-ReadFault-clause-writes g c = rw c.in-ReadFault.is c.write_line-in-ReadFault.ensures.writes

pub returns-in-Program-clause-writes : goal.returns-in-Program-clause-writes
returns-in-Program-clause-writes g c = rw (c.in-TooLong.is, c.in-Program.is) c.write_line-in-Program.ensures.writes

pub returns-in-Derivation-clause-writes : goal.returns-in-Derivation-clause-writes
returns-in-Derivation-clause-writes g c = rw (c.in-TooLong.is, c.in-Derivation.is) c.write_line-in-Derivation.ensures.writes

pub returns-in-Spent-clause-writes : goal.returns-in-Spent-clause-writes
returns-in-Spent-clause-writes g c = rw c.in-Spent.is c.write_spent.ensures.writes

pub returns-in-Arguments-clause-writes : goal.returns-in-Arguments-clause-writes
returns-in-Arguments-clause-writes g c = rw c.in-Arguments.is c.write_arguments.ensures.writes

pub returns-in-Schedule-clause-writes : goal.returns-in-Schedule-clause-writes
returns-in-Schedule-clause-writes g c = rw c.in-Schedule.is c.write_schedule_fault.ensures.writes

pub returns-in-Schedule-text-clause-writes : goal.returns-in-Schedule-text-clause-writes
returns-in-Schedule-text-clause-writes g c = rw (c.in-TooLong.is, c.in-Schedule-text.is) c.write_line-in-Schedule-text.ensures.writes
