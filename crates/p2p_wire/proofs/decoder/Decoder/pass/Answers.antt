-- What the proof of `decoder::Decoder::pass` needs beside the tactics.
use Rattle.std.proofs.Common.{◌≡◌, ◌+◌, length, sym, ◌∙◌, ap, arith}
use Rattle.p2p_wire.specs.Streams.{DecoderView, Says, Gives, after_told, after_giving, next_answer, answer_by, line_of}
use Rattle.p2p_wire.proofs.StreamLemmas.{given_len, said_len}
use Rattle.p2p_wire.proofs.decoder.Decoder.pass.Goals as goal

pub overflow_sub-left : goal.overflow_sub-left
overflow_sub-left c =
    let is : next_answer c.args.self.now ≡ Gives c.in-Data.raw.items = sym c.requires ∙ ap answer_by c.in-Data.is in
    let short = given_len c.args.self.now c.in-Data.raw.items is in
    let same : c.self.inside.left ≡ c.args.self.now.left = ap (λ (u : DecoderView). u.left) c.self.view_is in
    omega (arith, c.len.ensures, c.in-Data.raw.ok.0, short.1, same)

pub advance-requires-in-Data : goal.advance-requires-in-Data
advance-requires-in-Data c =
    let is : next_answer c.args.self.now ≡ Gives c.in-Data.raw.items = sym c.requires ∙ ap answer_by c.in-Data.is in
    let short = given_len c.args.self.now c.in-Data.raw.items is in
    omega (arith, c.len-in-Data.ensures, c.in-Data.raw.ok.0, short.0)

pub returns-in-Message : goal.returns-in-Message
returns-in-Message c =
    let is : next_answer c.args.self.now ≡ Says c.in-Message.message = sym c.requires ∙ ap answer_by c.in-Message.is in
    let long = said_len c.args.self.now c.in-Message.message is in
    let count : c.line_len-end.result + 1 ≡ length (line_of c.in-Message.message) = ap (λ n. n + 1) c.line_len-end.ensures.place ∙ long in
    c.advance.ensures
    ∙ ap (λ (u : DecoderView). after_giving u (c.line_len-end.result + 1) c.raw_after.result) c.line_len-end.ensures.same
    ∙ ap (λ n. after_giving c.args.self.now n c.raw_after.result) count
    ∙ ap (after_giving c.args.self.now (length (line_of c.in-Message.message))) c.raw_after.ensures
    ∙ ap (after_told c.args.self.now) (sym (ap answer_by c.in-Message.is))
