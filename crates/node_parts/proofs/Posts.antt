-- What becomes of the links, frame by frame.
use Rattle.std.proofs.Common.{◌≡◌, ◌≢◌, inl, inr, ℕ, Bool, true, false, if◌then◌else◌, List, [], ◌∷◌, ◌++◌, Option, Some, None, is_some, length, map, refl, sym, ap, subst, ◌∙◌, append-nil}
use Rattle.std.specs.Prelude.{◌==◌, ◌&&◌, not}
use Rattle.std.specs.Option.{ForSome, option_map, option_to_list}
use Rattle.std.proofs.lemmas.Bool.{and_parts, cases_Bool, eqb-true}
use Rattle.std.proofs.lemmas.List.{map-append}
use Rattle.std.proofs.lemmas.List.Elements.{filter-append}
use Rattle.std.proofs.lemmas.List.Sums.{fold-append}
use Rattle.annex_base.specs.Lists.{Member}
use Rattle.annex_base.specs.declared.kinds.EntryStamp.{EntryStamp}
use Rattle.annex_base.specs.declared.kinds.Word.{Word}
use Rattle.annex_base.proofs.Conditions.{eqb_refl, if_not, same_bool_is}
use Rattle.annex_base.proofs.Lists.{Member-append_cases, Member-append_left, Member-append_right, cons_first}
use Rattle.annex_base.proofs.Options.{where_some}
use Rattle.annex_base.specs.Bools.{same_bool}
use Rattle.run_data.specs.declared.entry.EntryKind.{EntryKind}
use Rattle.run_data.specs.declared.entry.FrameText.{FrameText}
use Rattle.run_data.specs.declared.entry.FrameView.{FrameView}
use Rattle.link_ring.specs.declared.frame.Frame.{Frame}
use Rattle.link_ring.specs.Ends.{EndView, after_take}
use Rattle.node_model.specs.Ends.{EndName, end_sends, sends_at, sent_at, taken_at, takes_at}
use Rattle.node_ends.specs.declared.sending.Sending.{Sending}
use Rattle.node_ends.specs.declared.sending.Sending.TheVariants as sendings
use Rattle.node_ends.specs.Ends.{end_at, frame_at, link_at, wait_at}
use Rattle.node_ends.specs.Going.{IsSent}
use Rattle.node_ends.specs.Sent.{link_sends, text_of_sending}
use Rattle.node_sessions.specs.Pieces.{IsNoPiece}
use Rattle.node_sessions.specs.Serving.{IsTalk}
use Rattle.node_sessions.specs.Words.{word_to}
use Rattle.node_crash.proofs.Ends.{same_or_other}
use Rattle.node_parts.specs.declared.done.Done.{Done}
use Rattle.node_parts.specs.declared.moment.Moment.{Moment}
use Rattle.node_parts.specs.Posting.{after_step, stamp_of, taken_off, word_with}
use Rattle.node_parts.specs.Sending.{Answers, AreAmong, PostsNothing, PostsOn, PostsOnly, PostsWith}
use Rattle.node_parts.proofs.Posting.{frame_end, sends_its}

-- ---- the word

pub client_word : (a : EndName) (taken : Option FrameView) (kind : EntryKind) (said : Sending) → a.client ≡ true → None ≡ word_with a taken kind said
client_word a taken kind sendings.Open client = refl
client_word a taken kind sendings.Close client = refl
client_word a taken kind (sendings.Line line listed) client = sym (ap (λ (b : Bool). if b then None else word_to taken kind) client)
client_word a taken kind (sendings.Bytes bytes) client = sym (ap (λ (b : Bool). if b then None else word_to taken kind) client)

pub talk_word : (a : EndName) (taken : Option FrameView) (kind : EntryKind) (said : Sending) → IsTalk said → a.client ≡ false → word_to taken kind ≡ word_with a taken kind said
talk_word a taken kind sendings.Open talk server = absurd talk
talk_word a taken kind sendings.Close talk server = absurd talk
talk_word a taken kind (sendings.Line line listed) talk server = sym (ap (λ (b : Bool). if b then None else word_to taken kind) server)
talk_word a taken kind (sendings.Bytes bytes) talk server = sym (ap (λ (b : Bool). if b then None else word_to taken kind) server)

-- ---- names of ends

same_name : (a b : EndName) → a.peer ≡ b.peer → a.slot ≡ b.slot → a.client ≡ b.client → a ≡ b
same_name a b peer slot client = λ i. record { peer = peer i; slot = slot i; client = client i }

-- a frame is sent at the end of one name alone
sends_only : (a b : EndName) (f : FrameView) → sends_at a f ≡ true → sends_at b f ≡ true → b ≡ a
sends_only a b f here there =
    let p = and_parts ((f.peer == a.peer) && (f.slot == a.slot)) (same_bool f.up a.client) here in
    let q = and_parts (f.peer == a.peer) (f.slot == a.slot) p.0 in
    let r = and_parts ((f.peer == b.peer) && (f.slot == b.slot)) (same_bool f.up b.client) there in
    let s = and_parts (f.peer == b.peer) (f.slot == b.slot) r.0 in
    same_name b a (sym (eqb-true f.peer b.peer s.0) ∙ eqb-true f.peer a.peer q.0) (sym (eqb-true f.slot b.slot s.1) ∙ eqb-true f.slot a.slot q.1)
    (sym (same_bool_is f.up b.client r.1) ∙ same_bool_is f.up a.client p.1)

takes_its : (a : EndName) (frame : Frame) → takes_at a (frame_at a frame) ≡ true
takes_its a frame = rw (eqb_refl a.peer, eqb_refl a.slot) (go a.client)
  where
    go : (c : Bool) → same_bool c (if not c then false else true) ≡ true
    go true = refl
    go false = refl

takes_only : (a b : EndName) (frame : Frame) → takes_at b (frame_at a frame) ≡ true → b ≡ a
takes_only a b frame there =
    let r = and_parts ((a.peer == b.peer) && (a.slot == b.slot)) (same_bool b.client (if not a.client then false else true)) there in
    let s = and_parts (a.peer == b.peer) (a.slot == b.slot) r.0 in
    same_name b a (sym (eqb-true a.peer b.peer s.0)) (sym (eqb-true a.slot b.slot s.1)) (same_bool_is b.client (if not a.client then false else true) r.1 ∙ if_not a.client)

-- ---- what is taken

abbrev if_took : Bool → FrameView → EndView → EndView
if_took b f v = if is_some (if b then Some f else None) then after_take v else v

same_link : (o : Option EndView) → o ≡ option_map (λ v. v) o
same_link None = refl
same_link (Some v) = refl

pub posts_nothing : (links now : List EndView) → now ≡ links → PostsNothing links now None
posts_nothing links now same = λ answers sender kind. subst (λ (l : List EndView). PostsOnly answers sender kind links l None []) (sym same) (record {
  posts = record { count = refl; took = λ a f none. absurd cc; said = λ a. []; listed = λ a. refl; links = λ a. same_link (link_at links a) };
  pieces = λ a bytes among. absurd among;
})

pub posts_taken : (was now : List EndView) (a : EndName) (frame : Frame) → Some (frame_at a frame) ≡ wait_at was a → link_at now a ≡ option_map after_take (link_at was a) → ((b : EndName) → b ≢ a → link_at now b ≡ link_at was b) → length now ≡ length was
    → PostsNothing was now (Some (frame_at a frame))
posts_taken was now a frame waits link others count = λ answers sender kind. record {
  posts = record { count = count; took = took; said = λ b. []; listed = λ b. refl; links = links sender kind };
  pieces = λ b bytes among. absurd among;
}
  where
    f : FrameView
    f = frame_at a frame

    took : (b : EndName) (g : FrameView) → taken_at b (Some f) ≡ Some g → wait_at was b ≡ Some g
    took b g is =
        let there = where_some (takes_at b f) (Some f) g is in
        subst (λ (x : EndName). wait_at was x ≡ Some g) (sym (takes_only a b frame there.0)) (sym waits ∙ there.1)

    here : link_at now a ≡ option_map (if_took (takes_at a f) f) (link_at was a)
    here = link ∙ ap (λ (b : Bool). option_map (if_took b f) (link_at was a)) (sym (takes_its a frame))

    elsewhere : (b : EndName) → b ≢ a → link_at now b ≡ option_map (if_took (takes_at b f) f) (link_at was b)
    elsewhere b other = elim (cases_Bool (takes_at b f)) [
      | inl is ↦ absurd (other (takes_only a b frame is))
      | inr passes ↦ others b other ∙ (same_link (link_at was b) ∙ ap (λ (t : Bool). option_map (if_took t f) (link_at was b)) (sym passes))
    ]

    links : (sender : EntryStamp) (kind : EntryKind) (b : EndName) → link_at now b ≡ option_map (after_step sender kind b (Some f) []) (link_at was b)
    links sender kind b = elim (same_or_other b a) [
      | inl same ↦ subst (λ (x : EndName). link_at now x ≡ option_map (after_step sender kind x (Some f) []) (link_at was x)) (sym same) here
      | inr other ↦ elsewhere b other
    ]

-- ---- what is sent

-- where this is a piece, it is one of the answers
abbrev IsOwn : Answers → EndName → Sending → Type 0
IsOwn answers a said = (bytes : List ℕ) → said ≡ sendings.Bytes bytes → Member (a, sendings.Bytes bytes) answers

none_own : (answers : Answers) (a : EndName) (said : Sending) → IsNoPiece said → IsOwn answers a said
none_own answers a said plain = λ bytes is. absurd (subst IsNoPiece is plain)

-- this piece, where it may be sent
pub piece_own : (answers : Answers) (a : EndName) (piece : List ℕ) → AreAmong ((a, sendings.Bytes piece) ∷ []) answers → IsOwn answers a (sendings.Bytes piece)
piece_own answers a piece among = λ bytes is. subst (λ (said : Sending). Member (a, said) answers) is (among (a, sendings.Bytes piece) (inl refl))

module _ (answers : Answers) (sender : EntryStamp) (kind : EntryKind) (was now : List EndView) (taken : Option FrameView) (sent : List FrameView) (only : PostsOnly answers sender kind was now taken sent)
    (next : List EndView) (a : EndName) (said : Sending) where
  module _ (f : FrameView) (is : IsSent a sender (word_with a taken kind said) said now next f) where
    sends : sends_at a f ≡ true
    sends = ap (λ (x : EndName). sends_at x f) (sym (frame_end a (end_at now a) (text_of_sending said) f is.view)) ∙ sends_its f

    body_is : text_of_sending said ≡ f.body
    body_is =
        let c = end_sends (end_at now a) (text_of_sending said) in
        ap (λ (g : FrameView). g.body) (cons_first (record { peer = a.peer; slot = a.slot; up = a.client; epoch = c.epoch; seq = c.sent; body = text_of_sending said }) f [] [] is.view)

    abbrev if_said : Bool → List Sending
    if_said true = said ∷ []
    if_said false = []

    abbrev said_at : EndName → List Sending
    said_at b = only.posts.said b ++ if_said (sends_at b f)

    one : (b : Bool) → map text_of_sending (if_said b) ≡ map (λ (g : FrameView). g.body) (if b then f ∷ [] else [])
    one true = ap (λ (t : FrameText). t ∷ []) body_is
    one false = refl

    listed : (b : EndName) → map text_of_sending (said_at b) ≡ map (λ (g : FrameView). g.body) (sent_at b (sent ++ f ∷ []))
    listed b =
        map-append text_of_sending (only.posts.said b) (if_said (sends_at b f))
        ∙ (ap (λ (ts : List FrameText). ts ++ map text_of_sending (if_said (sends_at b f))) (only.posts.listed b)
        ∙ (ap (λ (ts : List FrameText). map (λ (g : FrameView). g.body) (sent_at b sent) ++ ts) (one (sends_at b f))
        ∙ (sym (map-append (λ (g : FrameView). g.body) (sent_at b sent) (sent_at b (f ∷ [])))
        ∙ ap (map (λ (g : FrameView). g.body)) (sym (filter-append (sends_at b) sent (f ∷ []))))))

    then_sends : (o : Option EndView) → option_map (link_sends sender (word_with a taken kind said) said) (option_map (after_step sender kind a taken (only.posts.said a)) o) ≡ option_map (after_step sender kind a taken (only.posts.said a ++ said ∷ [])) o
    then_sends None = refl
    then_sends (Some v) = ap Some (sym (fold-append (λ w x. link_sends sender (word_with a taken kind x) x w) (taken_off a taken v) (only.posts.said a) (said ∷ [])))

    here : link_at next a ≡ option_map (after_step sender kind a taken (said_at a)) (link_at was a)
    here =
        is.link
        ∙ (ap (option_map (link_sends sender (word_with a taken kind said) said)) (only.posts.links a)
        ∙ (then_sends (link_at was a)
        ∙ ap (λ (b : Bool). option_map (after_step sender kind a taken (only.posts.said a ++ if_said b)) (link_at was a)) (sym sends)))

    elsewhere : (b : EndName) → b ≢ a → link_at next b ≡ option_map (after_step sender kind b taken (said_at b)) (link_at was b)
    elsewhere b other = elim (cases_Bool (sends_at b f)) [
      | inl does ↦ absurd (other (sends_only a b f sends does))
      | inr passes ↦
          let same : said_at b ≡ only.posts.said b = ap (λ (t : Bool). only.posts.said b ++ if_said t) passes ∙ append-nil (only.posts.said b) in
          is.others b other ∙ (only.posts.links b ∙ ap (λ (xs : List Sending). option_map (after_step sender kind b taken xs) (link_at was b)) (sym same))
    ]

    links : (b : EndName) → link_at next b ≡ option_map (after_step sender kind b taken (said_at b)) (link_at was b)
    links b = elim (same_or_other b a) [
      | inl same ↦ subst (λ (x : EndName). link_at next x ≡ option_map (after_step sender kind x taken (said_at x)) (link_at was x)) (sym same) here
      | inr other ↦ elsewhere b other
    ]

    -- a piece of these was said before, or is the one that is said now
    pieces : IsOwn answers a said → (b : EndName) (bytes : List ℕ) → Member (sendings.Bytes bytes) (said_at b) → Member (b, sendings.Bytes bytes) answers
    pieces own b bytes among = elim (Member-append_cases (only.posts.said b) (if_said (sends_at b f)) (sendings.Bytes bytes) among) [
      | inl before ↦ only.pieces b bytes before
      | inr now ↦ go (sends_at b f) refl now
    ]
      where
        go : (t : Bool) → sends_at b f ≡ t → Member (sendings.Bytes bytes) (if_said t) → Member (b, sendings.Bytes bytes) answers
        go true does (inl same) = subst (λ (x : EndName). Member (x, sendings.Bytes bytes) answers) (sym (sends_only a b f sends does)) (own bytes (sym same))
        go true does (inr none) = absurd none
        go false does none = absurd none

    pub posts_more : IsOwn answers a said → PostsOnly answers sender kind was next taken (sent ++ f ∷ [])
    posts_more own = record { posts = record { count = is.count ∙ only.posts.count; took = only.posts.took; said = said_at; listed = listed; links = links }; pieces = pieces own }

  pub posts_word : IsOwn answers a said → (word : Option Word) → word ≡ word_with a taken kind said → (f : FrameView) → IsSent a sender word said now next f → PostsOnly answers sender kind was next taken (sent ++ f ∷ [])
  posts_word own word same f is = posts_more f (subst (λ (w : Option Word). IsSent a sender w said now next f) same is) own

  -- it is listed, where the end may send it
  pub posts_own : a.client ≡ true → IsOwn answers a said → (o : Option FrameView) → ForSome o (IsSent a sender None said now next) → (o ≡ None → next ≡ now) → PostsOnly answers sender kind was next taken (sent ++ option_to_list o)
  posts_own client own None is kept = subst (λ (l : List EndView). PostsOnly answers sender kind was l taken (sent ++ [])) (sym (kept refl)) (subst (PostsOnly answers sender kind was now taken) (sym (append-nil sent)) only)
  posts_own client own (Some f) is kept = posts_word own None (client_word a taken kind said client) f (is f refl)

  -- the same of what is no piece
  pub posts_by : a.client ≡ true → IsNoPiece said → (o : Option FrameView) → ForSome o (IsSent a sender None said now next) → (o ≡ None → next ≡ now) → PostsOnly answers sender kind was next taken (sent ++ option_to_list o)
  posts_by client plain o is kept = posts_own client (none_own answers a said plain) o is kept

-- ---- one behind the other

pub posts_on : (sender : EntryStamp) (first mid last : List EndView) (sent sent' sent'' : List FrameView) → PostsOn sender first mid sent sent' → PostsOn sender mid last sent' sent'' → PostsOn sender first last sent sent''
posts_on sender first mid last sent sent' sent'' before behind = λ answers kind was taken so_far. behind answers kind was taken (before answers kind was taken so_far)

pub posts_still : (sender : EntryStamp) (links : List EndView) (sent : List FrameView) → PostsOn sender links links sent sent
posts_still sender links sent = λ answers kind was taken so_far. so_far

-- ---- one behind the other, where these answers may be sent

pub with_none : (these : Answers) (sender : EntryStamp) (ends ends' : List EndView) (sent sent' : List FrameView) → PostsOn sender ends ends' sent sent' → PostsWith these sender ends ends' sent sent'
with_none these sender ends ends' sent sent' on = λ answers kind was taken among so_far. on answers kind was taken so_far

pub with_still : (these : Answers) (sender : EntryStamp) (links : List EndView) (sent : List FrameView) → PostsWith these sender links links sent sent
with_still these sender links sent = λ answers kind was taken among so_far. so_far

-- some of them, and then others of them
pub with_more : (these part : Answers) (sender : EntryStamp) (first mid last : List EndView) (sent sent' sent'' : List FrameView) → AreAmong part these → PostsWith these sender first mid sent sent' → PostsWith part sender mid last sent' sent''
    → PostsWith these sender first last sent sent''
with_more these part sender first mid last sent sent' sent'' within before behind = λ answers kind was taken among so_far.
    behind answers kind was taken (λ x m. among x (within x m)) (before answers kind was taken among so_far)

-- where these are all that may be sent
pub with_all : (these : Answers) (sender : EntryStamp) (kind : EntryKind) (ends ends' was : List EndView) (taken : Option FrameView) (sent sent' : List FrameView) → PostsWith these sender ends ends' sent sent' → PostsOnly these sender kind was ends taken sent → PostsOnly these sender kind was ends' taken sent'
with_all these sender kind ends ends' was taken sent sent' on so_far = on these kind was taken (λ x m. m) so_far

-- some of these are among them
pub first_among : (part more : Answers) → AreAmong part (part ++ more)
first_among part more = λ x m. Member-append_left part more x m

pub rest_among : (part more these : Answers) → AreAmong (part ++ more) these → AreAmong more these
rest_among part more these within = λ x m. within x (Member-append_right part more x m)

pub part_among : (part more these : Answers) → AreAmong (part ++ more) these → AreAmong part these
part_among part more these within = λ x m. within x (Member-append_left part more x m)

-- ---- a whole step

-- of the stamp and the links that these are
pub posts_at : (answers : Answers) (m : Moment) (own number : ℕ) (stamp : EntryStamp) (was mid now : List EndView) (d : Done) → stamp ≡ stamp_of m own → own ≡ number → mid ≡ was → PostsOnly answers stamp d.kind mid now d.taken d.sent
    → PostsOnly answers (stamp_of m number) d.kind was now d.taken d.sent
posts_at answers m own number stamp was mid now d is numbered same posts =
    subst (λ (links : List EndView). PostsOnly answers (stamp_of m number) d.kind links now d.taken d.sent) same
    (subst (λ (s : EntryStamp). PostsOnly answers s d.kind mid now d.taken d.sent) (is ∙ ap (stamp_of m) numbered) posts)
