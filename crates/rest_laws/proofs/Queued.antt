-- What a queue of frames has on its way: the next of them, none where it is empty, and a Close.
use Rattle.std.proofs.Common.{◌≡◌, ℕ, zero, suc, ◌+◌, List, [], ◌∷◌, ◌++◌, Some, refl, sym, ap, ◌∙◌, subst, append-nil, length-append}
use Rattle.std.specs.Prelude.{length, slice_get}
use Rattle.annex_base.specs.Lists.{Each}
use Rattle.run_data.specs.declared.entry.Entry.{Entry}
use Rattle.run_data.specs.declared.entry.FrameText.{FrameText}
use Rattle.run_data.specs.declared.entry.FrameText.TheVariants.{Closing}
use Rattle.run_data.specs.declared.run.Run.{Run}
use Rattle.run_data.specs.Repos.{IsSetUp}
use Rattle.node_model.specs.Ends.{server_end}
use Rattle.run_model.specs.Frames.{FlyingFrame, Way, frames_sent, taken_count}
use Rattle.run_model.specs.Run.{RunPast, set_up}
use Rattle.run_model.specs.States.{end_at}
use Rattle.step_facts.proofs.Below.{SentAreRead}
use Rattle.cause_laws.proofs.ConversationServer.{Shutting}
use Rattle.cause_laws.proofs.Queues.{Queue, flying_bodies}
use Rattle.driver_model.specs.Ways.{IsOver}
use Rattle.rest_laws.proofs.Closings.{closing_over}

pub record IsSome (bs : List FrameText) : Type 0 where
  pub first : FrameText
  pub more : List FrameText
  pub is : bs ≡ first ∷ more

-- ---- lists

get_end : (xs : List FlyingFrame) (it : FlyingFrame) → slice_get xs (length xs) ≡ Some it → ⊥
get_end [] it e = cc
get_end (x ∷ xs) it e = get_end xs it e

get_next : (gone rest : List FlyingFrame) (it : FlyingFrame) → slice_get (gone ++ it ∷ rest) (length gone) ≡ Some it
get_next [] rest it = refl
get_next (x ∷ xs) rest it = get_next xs rest it

get_behind : (gone rest : List FlyingFrame) (k : ℕ) (it : FlyingFrame) → slice_get rest k ≡ Some it → (n : ℕ) × (slice_get (gone ++ rest) n ≡ Some it)
get_behind [] rest k it e = (k, e)
get_behind (x ∷ xs) rest k it e = let z = get_behind xs rest k it e in (suc z.0, z.1)

-- the Close among these
closing_in : (rest : List FlyingFrame) (down more : List FrameText) → flying_bodies rest ≡ down ++ Closing ∷ more → (k : ℕ) × (it : FlyingFrame) × (slice_get rest k ≡ Some it) × (it.frame.body ≡ Closing)
closing_in [] [] more e = absurd (cc)
closing_in [] (b ∷ bs) more e = absurd (cc)
closing_in (x ∷ xs) [] more e = let same : x.frame.body ≡ Closing = cc in (zero, x, refl, same)
closing_in (x ∷ xs) (b ∷ bs) more e = let tail : flying_bodies xs ≡ bs ++ Closing ∷ more = cc in let z = closing_in xs bs more tail in (suc z.0, z.1, z.2, z.3)

no_bodies : (xs : List FlyingFrame) → flying_bodies xs ≡ [] → xs ≡ []
no_bodies [] e = refl
no_bodies (x ∷ xs) e = absurd (cc)

first_body : (xs : List FlyingFrame) (b : FrameText) (bs : List FrameText) → flying_bodies xs ≡ b ∷ bs → (it : FlyingFrame) × (more : List FlyingFrame) × (xs ≡ it ∷ more)
first_body [] b bs e = absurd (cc)
first_body (x ∷ xs) b bs e = (x, xs, refl)

-- ---- queues

-- on an empty one nothing is next
pub empty_next : (past : List Entry) (w : Way) (it : FlyingFrame) → Queue past w [] → slice_get (frames_sent past w) (taken_count past w) ≡ Some it → ⊥
empty_next past w it q e = get_end q.gone it (subst (λ (xs : List FlyingFrame). slice_get xs (length q.gone) ≡ Some it) (ap (λ (xs : List FlyingFrame). q.gone ++ xs) (no_bodies q.rest q.bodies_are) ∙ append-nil q.gone)
    (subst (λ (xs : List FlyingFrame). slice_get xs (length q.gone) ≡ Some it) q.sent_is (subst (λ n. slice_get (frames_sent past w) n ≡ Some it) q.taken_is e)))

-- and on another something is
pub some_next : (past : List Entry) (w : Way) (bs : List FrameText) → Queue past w bs → IsSome bs → (it : FlyingFrame) × (slice_get (frames_sent past w) (taken_count past w) ≡ Some it)
some_next past w bs q s =
    let x = first_body q.rest s.first s.more (q.bodies_are ∙ s.is) in
    (x.0, subst (λ n. slice_get (frames_sent past w) n ≡ Some x.0) (sym q.taken_is) (subst (λ (xs : List FlyingFrame). slice_get xs (length q.gone) ≡ Some x.0) (sym (q.sent_is ∙ ap (λ (xs : List FlyingFrame). q.gone ++ xs) x.2)) (get_next q.gone x.1 x.0)))

-- how many were sent
bodies_length : (xs : List FlyingFrame) → length (flying_bodies xs) ≡ length xs
bodies_length [] = refl
bodies_length (x ∷ xs) = ap suc (bodies_length xs)

pub sent_length : (past : List Entry) (w : Way) (bs : List FrameText) → Queue past w bs → length (frames_sent past w) ≡ taken_count past w + length bs
sent_length past w bs q = ap length q.sent_is ∙ (length-append q.gone q.rest ∙ ((λ i. (sym q.taken_is) i + length q.rest) ∙ ap (λ n. taken_count past w + n) (sym (bodies_length q.rest) ∙ ap length q.bodies_are)))

-- where a Close is on the way down, the server is past the opening
pub shut_over : SentAreRead → (run : Run) → Each IsSetUp run.repos → (c v q : ℕ) (past : List Entry) → RunPast (set_up run) past → (n : ℕ) (down : List FrameText) → Shutting past c v q n down → IsOver (end_at past v (server_end c q)) n
shut_over reads_back run repos c v q past h n down u =
    let x = closing_in u.down_queue.rest down u.rest u.down_queue.bodies_are in
    let at = get_behind u.down_queue.gone u.down_queue.rest x.0 x.1 x.2 in
    closing_over reads_back run repos c v q past h n at.0 x.1 (subst (λ (xs : List FlyingFrame). slice_get xs at.0 ≡ Some x.1) (sym u.down_queue.sent_is) at.1) x.3
