-- What the proof of `fills::sessions_fill` needs beside the tactics.
use borrow.Author.Count.{below_more}
use Rattle.std.proofs.Common.{◌≡◌, ℕ, ◌<◌, Bool, false, not, ◌&&◌, ◌==◌, length, sym, ap, ◌∙◌, arith}
use Rattle.std.specs.List.{list_any}
use Rattle.node_model.specs.Ends.{server_end}
use Rattle.node_model.specs.SessionStep.{session_fills}
use Rattle.node_model.specs.SetUp.{slots}
use Rattle.session_makes.proofs.ServedLemmas.{any_served, none_within, some_within}
use Rattle.session_makes.proofs.fills.sessions_fill.Goals as goal

pub loop-peer-init : goal.loop-peer-init
loop-peer-init c = λ s st is x low. absurd (omega arith)

pub loop-peer-preserved : goal.loop-peer-preserved
loop-peer-preserved c = λ s st is.
    let fills : ℕ → Bool = λ x. list_any (λ slot. session_fills st c.args.key.now (server_end x slot)) slots in
    below_more (λ x. (not (x == c.number-own.result) && fills x) ≡ false) c.loop-peer.peer (c.loop-peer.invariant s st is)
    (sym (c.other_fills.ensures s st is) ∙ c.if-other_fills.false)

pub returns-then-other_fills : goal.returns-then-other_fills
returns-then-other_fills c = λ s st same is.
    let fills : ℕ → Bool = λ x. list_any (λ slot. session_fills st c.args.key.now (server_end x slot)) slots in
    let count : length s.repos ≡ length c.args.repos.now = ap length same in
    let passes = ap (λ (n : ℕ). not (c.loop-peer.peer == n) && fills c.loop-peer.peer) (c.number-own.ensures s st is) ∙ sym (c.other_fills.ensures s st is) ∙ c.if-other_fills.true in
    sym (any_served s (λ peer slot. session_fills st c.args.key.now (server_end peer slot))
    ∙ some_within (λ x. not (x == s.number) && fills x) 0 (length s.repos) c.loop-peer.peer (omega arith) (omega (arith, count)) passes)

pub returns : goal.returns
returns c = λ s st same is.
    let fills : ℕ → Bool = λ x. list_any (λ slot. session_fills st c.args.key.now (server_end x slot)) slots in
    let count : length s.repos ≡ length c.args.repos.now = ap length same in
    let none : (x : ℕ) → x < length s.repos → (not (x == s.number) && fills x) ≡ false = λ x low.
    ap (λ (n : ℕ). not (x == n) && fills x) (c.number-own.ensures s st is) ∙ c.loop-peer.invariant s st is x (omega (arith, count, low)) in
    sym (any_served s (λ peer slot. session_fills st c.args.key.now (server_end peer slot))
    ∙ none_within (λ x. not (x == s.number) && fills x) 0 (length s.repos) (λ x low. none x (omega (arith, low))))
