use Rattle.pj_server.proofs.ending.write_end.Goals as goal

pub returns-in-Usage-clause-part : goal.returns-in-Usage-clause-part
returns-in-Usage-clause-part g c = rw c.in-Usage.is c.write_all-in-Usage.ensures.part

pub returns-in-SourceFailed-clause-all : goal.returns-in-SourceFailed-clause-all
returns-in-SourceFailed-clause-all g c = rw c.in-SourceFailed.is c.write_all-in-SourceFailed.ensures.all

pub returns-in-SourceFailed-clause-part : goal.returns-in-SourceFailed-clause-part
returns-in-SourceFailed-clause-part g c = rw c.in-SourceFailed.is c.write_all-in-SourceFailed.ensures.part

pub returns-in-SinkFailed-clause-all : goal.returns-in-SinkFailed-clause-all
returns-in-SinkFailed-clause-all g c = rw c.in-SinkFailed.is c.write_all-in-SinkFailed.ensures.all

pub returns-in-SinkFailed-clause-part : goal.returns-in-SinkFailed-clause-part
returns-in-SinkFailed-clause-part g c = rw c.in-SinkFailed.is c.write_all-in-SinkFailed.ensures.part

pub returns-in-TooLarge-clause-all : goal.returns-in-TooLarge-clause-all
returns-in-TooLarge-clause-all g c = rw c.in-TooLarge.is c.write_all-in-TooLarge.ensures.all

pub returns-in-TooLarge-clause-part : goal.returns-in-TooLarge-clause-part
returns-in-TooLarge-clause-part g c = rw c.in-TooLarge.is c.write_all-in-TooLarge.ensures.part
