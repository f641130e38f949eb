use Rattle.std.proofs.Common.{◌-◌, ◌≤◌, length}
use Rattle.pj_lex.specs.Tokens.{Lead}
use Rattle.pj_lex.proofs.cutting.tokens.Given as goal

abbrev pub invariant-tokens : goal.invariant-tokens
invariant-tokens l = record {
  within : length l.rest ≤ length l.body;
  prefix : Lead 0 l.body l.tokens.items (length l.body - length l.rest) l.rest;
}

abbrev pub decreases-tokens : goal.decreases-tokens
decreases-tokens l = length l.rest
