-- What the proof of `token::next_token` needs beside the tactics.
use Rattle.std.proofs.Common.{rules, arith}
use Rattle.wanted_expr.proofs.TokenLemmas.{word_begins}
use Rattle.wanted_expr.proofs.token.next_token.Goals as goal

pub word_of-requires-clause-begins : goal.word_of-requires-clause-begins
word_of-requires-clause-begins c =
    word_begins c.args.bytes.now c.after_spaces-rest.result.now c.in-Some.first.now c.in-Some.after.now c.after_spaces-rest.ensures.value c.in-Some.ensures.cases.0
    (λ e. first_of (omega arith, search rules)) (λ e. first_of (omega arith, search rules))
