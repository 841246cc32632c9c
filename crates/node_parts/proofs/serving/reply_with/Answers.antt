-- What the proof of `serving::reply_with` needs beside the tactics.
use Rattle.std.proofs.Common.{inl, List, Option, Some, [], ◌∷◌, ◌++◌, refl, sym, ap, subst, ◌∙◌}
use Rattle.annex_base.specs.Lists.{Member}
use Rattle.run_data.specs.declared.entry.FrameView.{FrameView}
use Rattle.node_model.specs.Ends.{End}
use Rattle.node_ends.specs.declared.sending.Sending.{Sending}
use Rattle.node_ends.specs.declared.sending.Sending.TheVariants as sendings
use Rattle.node_ends.specs.Ends.{end_at, name_of}
use Rattle.node_parts.specs.Sending.{PostsOnly, answers_at}
use Rattle.node_parts.proofs.Posts.{posts_word, talk_word}
use Rattle.node_parts.proofs.Saying.{listed_talk, may_talk, opened_talk}
use Rattle.node_parts.proofs.serving.reply_with.Goals as goal

pub send-requires-clause-may : goal.send-requires-clause-may
send-requires-clause-may c = may_talk c.args.ends.now (name_of c.args.id) c.in-Some.said c.requires.line c.requires.bytes (c.requires.talk c.in-Some.said c.in-Some.is)

pub send-requires-clause-listed : goal.send-requires-clause-listed
send-requires-clause-listed c = listed_talk c.in-Some.said (c.requires.talk c.in-Some.said c.in-Some.is)

pub returns-in-Some-clause-opened : goal.returns-in-Some-clause-opened
returns-in-Some-clause-opened c =
    ap (λ (x : End). x.opened) c.send.ensures.state ∙ opened_talk (end_at c.args.ends.now (name_of c.args.id)) c.in-Some.said (c.requires.talk c.in-Some.said c.in-Some.is)

pub returns-in-Some-clause-posts : goal.returns-in-Some-clause-posts
returns-in-Some-clause-posts c = λ kind was taken word before.
    let e = c.send.ensures in
    let a = name_of c.args.id in
    let said = c.in-Some.said in
    let answers = answers_at a c.args.reply in
    subst (PostsOnly answers c.args.stamp kind was c.send.new.self taken) (sym (c.push_reserved.ensures.items ∙ ap (λ (fs : List FrameView). fs ++ c.send.result ∷ []) c.requires.empty))
    (posts_word answers c.args.stamp kind was c.args.ends.now taken [] before c.send.new.self a said (λ bytes is. subst (λ (o : Option Sending). Member (a, sendings.Bytes bytes) (answers_at a o)) (sym (c.in-Some.is ∙ ap (λ (x : Sending). Some x) is)) (inl refl)) c.args.word (word ∙ talk_word a taken kind said (c.requires.talk said c.in-Some.is) c.requires.server) c.send.result
    (record { view = e.view; state = e.state; link = e.link; others = e.others; count = e.count; after = e.after }))
