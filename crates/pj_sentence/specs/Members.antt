-- What CREATE TABLE lists, as the code has it and as the grammar does. No public contract cites this file.
use Rattle.pj_sentence.specs.declared.creates.members.ReadMember.{ReadMember}
use Rattle.pj_sentence.specs.declared.creates.members.ReadMember.TheVariants as members
use Rattle.pj_grammar.specs.grammar.Tables.{Member, defined, projected}

-- what CREATE TABLE lists, as the grammar has it
abbrev pub member_of : ReadMember → Member
member_of (members.Column one) = defined one
member_of (members.Projection one) = projected one
