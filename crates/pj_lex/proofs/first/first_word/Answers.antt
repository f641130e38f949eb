use Rattle.std.proofs.Common.{◌≡◌, ◌++◌, take, sym, ◌∙◌}
use Rattle.std.specs.List.{prefix_len}
use Rattle.std.proofs.lemmas.List.{take-append-drop}
use Rattle.pj_lex.specs.Bytes.{is_word_byte, AllAre, after_blanks}
use Rattle.pj_lex.specs.Tokens.{StopsAt}
use Rattle.pj_lex.proofs.TokenBytes.{run_passes, run_stops}
use Rattle.pj_lex.proofs.FirstTokens.{prefix_of, word_is, word-stands, word-none}
use Rattle.pj_lex.proofs.first.first_word.Goals as goal

pub returns-then-begins_word_first : goal.returns-then-begins_word_first
returns-then-begins_word_first c =
    let bytes = c.skip_blanks-bytes.result.now in
    let whole : after_blanks c.args.bytes.now ≡ c.split_at.result.0.now ++ c.split_at.result.1.now =
    sym c.skip_blanks-bytes.ensures
    ∙ rw (c.split_at.ensures.front, c.split_at.ensures.back)
    (sym (take-append-drop c.word_prefix.result bytes)) in
    let all : AllAre is_word_byte c.split_at.result.0.now =
    rw (c.split_at.ensures.front, c.word_prefix.ensures.count) (run_passes is_word_byte bytes) in
    let stops : StopsAt is_word_byte c.split_at.result.1.now =
    rw (c.split_at.ensures.back, c.word_prefix.ensures.count) (run_stops is_word_byte bytes) in
    word-stands c.args.bytes.now c.split_at.result.0.now c.split_at.result.1.now whole
    (word_is c.split_at.result.0.now (sym c.begins_word_first.ensures ∙ c.if-begins_word_first.true) all)
    stops

pub returns-else-begins_word_first : goal.returns-else-begins_word_first
returns-else-begins_word_first c =
    let prefix : c.split_at.result.0.now
    ≡ take (prefix_len is_word_byte (after_blanks c.args.bytes.now)) (after_blanks c.args.bytes.now) =
    prefix_of is_word_byte c.args.bytes.now c.skip_blanks-bytes.result.now c.split_at.result.0.now
    c.word_prefix.result c.skip_blanks-bytes.ensures c.word_prefix.ensures.count
    c.split_at.ensures.front in
    λ word more stands.
    word-none c.args.bytes.now c.split_at.result.0.now word more stands prefix
    (sym c.begins_word_first.ensures ∙ c.if-begins_word_first.false)
