-- A parse of the program's words ends with one kind of refusal at most.
use Rattle.std.proofs.Common.{◌≡◌, ◌+◌, ℕ, Bool, cond, true, false, zero, suc, refl, ap, sym, List}
use Rattle.std.proofs.Common.{[], ◌∷◌, length, drop, min, Option, Some, None, inl, inr, is_some}
use Rattle.std.specs.Prelude.{⊤, ◌==◌, ◌&&◌, ◌||◌, encode_utf8, nat_lt, not, slice_get}
use Rattle.std.specs.List.{list_any}
use Rattle.std.specs.Option.{option_map_or}
use Rattle.std.specs.Str.{bytes_eq, chars}
use Rattle.clap.specs.Lexer.{long_of, short_of}
use Rattle.clap.specs.Matches.{count_text}
use Rattle.clap.specs.Facts.{explicit_source, parser_of_value, unwrap_or_range}
use Rattle.clap.specs.Values.{refused_kind}
use Rattle.clap.specs.ValueTests.{accepts}
use Rattle.clap.specs.Walk.{Held, Row, Rule, Step, Text, Waiting, Walk, action_of, arg_by_id}
use Rattle.clap.specs.Walk.{arg_by_index, arg_by_long, arg_by_short, attached_value, count_of}
use Rattle.clap.specs.Walk.{finished, has_row, idle, is_empty, is_pending, most_values}
use Rattle.clap.specs.Walk.{nothing_held, option, positional, next, trailing, subcommand, value}
use Rattle.clap.specs.Walk.{reacted, settled, takes_several, takes_values, values_or_missing, walk}
use Rattle.clap.specs.Walk.{walk_from, walked, with_default, word_met}
use Rattle.clap.specs.Simple.{Shape, argument_words, built, entered}
use Rattle.clap.specs.Takes.{is_given}
use Rattle.clap.specs.Kinds.{Kinds, IsAmong, check_kinds, or_else, range_kinds, request_kinds}
use Rattle.clap.specs.Kinds.{value_kinds, values_kinds}
use Rattle.clap.specs.Faults.{action_fault, bundle_step_fault, check_fault, count_fault}
use Rattle.clap.specs.Faults.{default_fault, defaults_fault, entered_fault, fault_of}
use Rattle.clap.specs.Faults.{flag_word_fault, flags_fault, given_default_fault, level_fault}
use Rattle.clap.specs.Faults.{long_fault, option_fault, other_fault, positional_fault, react_fault}
use Rattle.clap.specs.Faults.{repeat_fault, set_fault, settle_fault, short_fault, step_fault}
use Rattle.clap.specs.Faults.{stray_fault, turn_fault, use_fault, walk_fault, word_fault}
use Rattle.clap.specs.declared.builder.action.ArgAction.{ArgAction}
use Rattle.clap.specs.declared.builder.action.ArgAction.TheVariants as action
use Rattle.clap.specs.declared.builder.value_parser.ValueParser.{ValueParser}
use Rattle.clap.specs.declared.error.kind.ErrorKind.{ErrorKind}
use Rattle.clap.specs.declared.error.kind.ErrorKind.TheVariants as kind
use Rattle.pj_words.specs.Words.{app}

-- one kind, or none
abbrev pub IsOne : Kinds → Type 0
IsOne [] = ⊤
IsOne (k ∷ []) = ⊤
IsOne (k ∷ l ∷ ks) = ⊥

-- a kind of such a list is all of it
pub alone : (ks : Kinds) (k : ErrorKind) → IsOne ks → IsAmong k ks → ks ≡ k ∷ []
alone [] k one among = absurd among
alone (x ∷ []) k one (inl same) = ap (λ y. y ∷ []) (sym same)
alone (x ∷ []) k one (inr none) = absurd none
alone (x ∷ y ∷ ys) k one among = absurd one

-- of two lists that have one kind at most, either has
pick : (b : Bool) (x y : Kinds) → IsOne x → IsOne y → IsOne (cond b x y)
pick true x y one other = one
pick false x y one other = other

-- and so does the first with the second behind it
after : (a b : Kinds) → IsOne a → IsOne b → IsOne (or_else a b)
after [] b one other = other
after (k ∷ ks) b one other = one

-- a kind of something that may be missing
if_some : {T : Type 0} (f : T → Kinds) (o : Option T) → ((x : T) → IsOne (f x)) → IsOne (option_map_or f o [])
if_some f None one = tt
if_some f (Some x) one = one x

value_one : (ignore_case : Bool) (parser : ValueParser) (text : Text)
    → IsOne (value_kinds ignore_case parser text)
value_one ignore_case parser text =
    pick (accepts ignore_case parser text) [] (refused_kind parser ∷ []) tt tt

values_one : (ignore_case : Bool) (parser : ValueParser) (values : List Text)
    → IsOne (values_kinds ignore_case parser values)
values_one ignore_case parser [] = tt
values_one ignore_case parser (v ∷ vs) =
    after _ _ (value_one ignore_case parser v) (values_one ignore_case parser vs)

range_one : (least most n : ℕ) → IsOne (range_kinds least most n)
range_one least most n =
    pick (nat_lt 0 least && n == 0) _ _ tt
    (pick (least == most) _ _ (pick (least == n) _ _ tt tt)
    (pick (nat_lt n least) _ _ tt (pick (nat_lt most n) _ _ tt tt)))

request_one : (x : ArgAction) → IsOne (request_kinds x)
request_one action.Set = tt
request_one action.Append = tt
request_one action.SetTrue = tt
request_one action.SetFalse = tt
request_one action.Count = tt
request_one action.Help = tt
request_one action.HelpShort = tt
request_one action.HelpLong = tt
request_one action.Version = tt

check_one : (help below argument : Bool) → IsOne (check_kinds help below argument)
check_one help below argument = pick help _ _ tt (pick below _ _ tt (pick argument _ _ tt tt))

repeat_one : (again : Bool) (id : Text) (rows : List Row) → IsOne (repeat_fault again id rows)
repeat_one again id rows = pick (has_row id rows && not again) (kind.ArgumentConflict ∷ []) [] tt tt

set_one : (again : Bool) (a : Rule) (values : List Text) (rows : List Row)
    → IsOne (set_fault again a values rows)
set_one again a values rows =
    after _ _ (repeat_one again a.id rows) (values_one a.ignore_case (parser_of_value a.parser) values)

count_one : (a : Rule) (values : List Text) (rows : List Row) → IsOne (count_fault a values rows)
count_one a [] rows =
    value_one a.ignore_case (parser_of_value a.parser) (count_text (min (count_of a.id rows + 1) 255))
count_one a (v ∷ vs) rows = values_one a.ignore_case (parser_of_value a.parser) (v ∷ vs)

action_one : (x : ArgAction) (again : Bool) (a : Rule) (values : List Text) (rows : List Row)
    → IsOne (action_fault x again a values rows)
action_one action.Set again a values rows = set_one again a values rows
action_one action.SetTrue again a values rows = set_one again a values rows
action_one action.SetFalse again a values rows = set_one again a values rows
action_one action.Append again a values rows = values_one a.ignore_case (parser_of_value a.parser) values
action_one action.Count again a values rows = count_one a values rows
action_one action.Help again a values rows = tt
action_one action.HelpShort again a values rows = tt
action_one action.HelpLong again a values rows = tt
action_one action.Version again a values rows = tt

module _ (c : List Rule) (again : Bool) where
  use_one : (a : Rule) (values : List Text) (rows : List Row) → IsOne (use_fault again a values rows)
  use_one a values rows =
      after _ _ (range_one (unwrap_or_range a.range).start_inclusive (most_values a) (length values))
      (action_one (action_of a) again a (values_or_missing a values) rows)

  settle_one : (h : Held) → IsOne (settle_fault c again h)
  settle_one h = if_some _ h.pending (λ p. if_some _ (arg_by_id c p.0) (λ a. use_one a p.1 h.rows))

  react_one : (a : Rule) (values : List Text) (h : Held) → IsOne (react_fault c again a values h)
  react_one a values h = after _ _ (settle_one h) (use_one a values (settled c h).rows)

  option_one : (a : Rule) (v : Option Text) (h : Held) → IsOne (option_fault c again a v h)
  option_one a (Some v) h = react_one a (v ∷ []) h
  option_one a None h = settle_one h

  long_one : (found : Option Rule) (v : Option Text) (h : Held) → IsOne (long_fault c again found v h)
  long_one None v h = tt
  long_one (Some a) v h =
      pick (takes_values a) _ _ (option_one a v h) (pick (is_some v) _ _ tt (react_one a [] h))

  short_one : (found : Option Rule) (rest : Text) (h : Held) (more : Held → Kinds)
      → ((h : Held) → IsOne (more h)) → IsOne (short_fault c again found rest h more)
  short_one None rest h more one = tt
  short_one (Some a) rest h more one =
      pick (takes_values a) _ _ (option_one a (attached_value rest) h)
      (after _ _ (react_one a [] h) (one (reacted c a [] h)))

  bundle_step_one : (first : Option ℕ) (flags : Text) (skip : ℕ) (h : Held) (more : Text → ℕ → Held → Kinds)
      → ((flags : Text) (skip : ℕ) (h : Held) → IsOne (more flags skip h))
      → IsOne (bundle_step_fault c again first flags skip h more)
  bundle_step_one None flags skip h more one = tt
  bundle_step_one (Some x) flags zero h more one =
      short_one (arg_by_short c x) (drop (length (encode_utf8 x)) flags) h _ (λ k. one _ 0 k)
  bundle_step_one (Some x) flags (suc skip) h more one = one _ skip h

  flags_one : (k : ℕ) (flags : Text) (skip : ℕ) (h : Held) → IsOne (flags_fault c again k flags skip h)
  unfolding flags_fault
  flags_one zero flags skip h = tt
  flags_one (suc k) flags skip h =
      bundle_step_one (slice_get (chars flags) 0) flags skip h (flags_fault c again k) (flags_one k)

  flag_word_one : (long : Option (Text × Option Text)) (word : Text) (h : Held)
      → IsOne (flag_word_fault c again long word h)
  flag_word_one (Some p) word h = long_one (arg_by_long c p.0) p.1 h
  flag_word_one None word h =
      if_some _ (short_of word) (λ flags. flags_one (length flags) flags h.skip (record h { skip = 0 }))

-- ---- a command with no subcommand

module _ (s : Shape) (leaf : s.is_leaf ≡ true) where
  plain_one : (word : Text) (h : Held) → IsOne (other_fault s None word h)
  plain_one word h =
      pick (bytes_eq word (45 ∷ 45 ∷ [])) []
      (flag_word_fault s.rules s.args_override_self (long_of word) word h) tt
      (flag_word_one s.rules s.args_override_self (long_of word) word h)

  word_one : (is_trailing : Bool) (waiting : Waiting) (word : Text) (h : Held)
      → IsOne (word_fault s [] is_trailing waiting word h)
  word_one true waiting word h = tt
  word_one false idle word h = plain_one word h
  word_one false (option id) word h = plain_one word h
  word_one false positional word h = plain_one word h

  stray_one : IsOne (stray_fault s)
  stray_one = rw leaf tt

  positional_one : (a : Rule) (h : Held) → IsOne (positional_fault s.rules s.args_override_self a h)
  positional_one a h =
      pick (is_pending a h.pending && takes_several a) [] (settle_fault s.rules s.args_override_self h) tt
      (settle_one s.rules s.args_override_self h)

  at_positional : (found : Option Rule) (h : Held)
      → IsOne (option_map_or (λ a. positional_fault s.rules s.args_override_self a h) found (stray_fault s))
  at_positional None h = stray_one
  at_positional (Some a) h = positional_one a h

  step_one : (position : ℕ) (h : Held) (step : Step) → IsOne (step_fault s position h step)
  step_one position h (next waiting) = tt
  step_one position h (trailing at) = tt
  step_one position h (subcommand name) = tt
  step_one position h value = at_positional (arg_by_index s.rules position) h

  turn_one : (w : Walk) (word : Text) → IsOne (turn_fault s [] w word)
  turn_one w word =
      let met = word_met s.rules [] w.is_trailing w.waiting w.position word w.held in
      pick (is_some w.stopped) []
      (or_else (word_fault s [] w.is_trailing w.waiting word w.held) (step_fault s w.position met.0 met.1)) tt
      (after _ _ (word_one w.is_trailing w.waiting word w.held) (step_one w.position met.0 met.1))

  walk_one : (w : Walk) (words : List Text) → IsOne (walk_fault s [] w words)
  unfolding walk_fault
  walk_one w [] = tt
  walk_one w (word ∷ rest) = after _ _ (turn_one w word) (walk_one (walked s.rules [] w word) rest)

  given_default_one : (a : Rule) (values : List Text) → IsOne (given_default_fault a values)
  given_default_one a values =
      after _ _ (request_one (action_of a)) (values_one a.ignore_case (parser_of_value a.parser) values)

  default_one : (rows : List Row) (a : Rule) → IsOne (default_fault rows a)
  default_one rows a =
      pick (has_row a.id rows || is_empty a.defaults) [] (given_default_fault a a.defaults) tt
      (given_default_one a a.defaults)

  defaults_one : (rows : List Row) (rules : List Rule) → IsOne (defaults_fault rows rules)
  unfolding defaults_fault
  defaults_one rows [] = tt
  defaults_one rows (a ∷ rest) =
      after _ _ (default_one rows a) (defaults_one (with_default rows a) rest)

  last_one : (rows : List Row) (has_subcommand : Bool) → IsOne (check_fault s rows has_subcommand)
  last_one rows has_subcommand =
      check_one
      (not has_subcommand
      && (s.arg_required_else_help && not (list_any (λ r. explicit_source r.source) rows)))
      (not has_subcommand && s.subcommand_required)
      (not (s.subcommand_negates_reqs && has_subcommand)
      && list_any (λ a. a.required && not (is_given a.id rows)) s.rules)

  level_one : (h : Held) (words : List Text) (has_subcommand : Bool) (below : Kinds) → IsOne below
      → IsOne (level_fault s [] h words has_subcommand below)
  level_one h words has_subcommand below one =
      let end = (walk s.rules [] h words).held in
      after _ _ (walk_one (walk_from h) words)
      (after _ _ one
      (after _ _ (settle_one s.rules s.args_override_self end)
      (after _ _ (defaults_one (settled s.rules end).rows s.rules)
      (last_one (finished s.rules end) has_subcommand))))

-- a parse of the program's words ends with one kind at most
pub fault_one : (words : List Text) → IsOne (fault_of app words)
fault_one words =
    let stop = (walk (built app).top.rules [] nothing_held (argument_words app words)).stopped in
    level_one (built app).top refl nothing_held (argument_words app words)
    (is_some (entered (built app) stop)) (entered_fault (built app) stop) (if_some (λ p. []) stop (λ p. tt))
