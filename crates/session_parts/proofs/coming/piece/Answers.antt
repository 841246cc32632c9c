-- By whether the piece is expected, and the store takes it.
use Rattle.std.proofs.Common.{◌≡◌, ℕ, ◌++◌, true, List, length, refl, sym, ap, subst, ◌∙◌, arith}
use Rattle.std.specs.Prelude.{nat_le, nat_lt, ◌&&◌}
use Rattle.std.specs.Option.{option_map}
use Rattle.object_store.specs.Stores.{Parts, with_at}
use Rattle.node_model.specs.Sessions as sessions
use Rattle.session_state.specs.Phases.{IsLonger}
use Rattle.session_state.specs.Talking.{doing_of}
use Rattle.session_state.proofs.Phases.{awaited, piece_so}
use Rattle.session_state.proofs.Unexpected.{bytes_past, no_bytes}
use Rattle.annex_base.specs.declared.kinds.Call.TheVariants as calls
use Rattle.std.proofs.Common.{false}
use Rattle.session_state.proofs.Calling.{makes_one, memory_left}
use Rattle.session_state.proofs.Making.{piece_makes}
use Rattle.session_state.proofs.Leaving.{contents_left}
use Rattle.session_parts.proofs.coming.piece.Goals as goal

pub returns-in_default-clause-goes : goal.returns-in_default-clause-goes
returns-in_default-clause-goes g c = c.refuse.ensures.goes c.args.scene _ _ _ _ _ c.requires.at.here (no_bytes c.args.session.now c.args.bytes.now c.in_default.not-Takes) c.requires.agrees

pub returns-then-not-awaits-clause-goes : goal.returns-then-not-awaits-clause-goes
returns-then-not-awaits-clause-goes g c =
    let left = c.in-Takes.taking.left in
    let len : c.len-count.result ≡ length c.args.bytes.now.items = omega (arith, c.args.bytes.now.ok.0, c.len-count.ensures) in
    c.refuse-then-not-awaits.ensures.goes c.args.scene _ _ _ _ _ c.requires.at.here
    (bytes_past c.args.session.now c.args.bytes.now c.in-Takes.taking c.in-Takes.is
    ((λ j. nat_lt 0 (sym len j) && nat_le (sym len j) left) ∙ sym c.awaits.ensures ∙ c.if-not-awaits.true))
    c.requires.agrees

pub returns-in-Ok-clause-goes : goal.returns-in-Ok-clause-goes
returns-in-Ok-clause-goes g c =
    let s = c.args.session.now in
    let t = c.in-Takes.taking in
    let parts = g.K.Keeper.parts c.args.keeper.now in
    let items : List ℕ = c.args.bytes.now.items in
    let len : c.len-count.result ≡ length items = omega (arith, c.args.bytes.now.ok.0, c.len-count.ensures) in
    let fits : (nat_lt 0 (length items) && nat_le (length items) t.left) ≡ true =
    (λ j. nat_lt 0 (sym len j) && nat_le (sym len j) t.left) ∙ sym c.awaits.ensures ∙ c.if-not-awaits.false in
    let grown = c.in-Ok.ensures.ok ∙ (λ j. option_map (λ (p : Parts). with_at p (c.key.ensures j) (p (c.key.ensures j) ++ c.deref.ensures.value j)) parts) in
    let in_part = awaited (length items) t.left fits in
    piece_so c.args.scene c.args.bytes.now s _ t c.args.table.now _ _ _ _ _ _ _ _ c.silent.result c.in-Takes.is c.requires.at in_part.0 in_part.1 refl
    (c.append.ensures.doing ∙ ap (λ (l : List ℕ). sessions.took_bytes (length l) (doing_of s.doing)) c.deref-in-Ok.ensures.value) c.append.ensures.share c.append.ensures.fills
    (λ p p' fed longer. c.append.ensures.fed p p' fed (subst (λ (l : List ℕ). IsLonger s.doing p p' l) (sym c.deref-in-Ok.ensures.value) longer))
    grown c.append_part.ensures.small c.append_part.ensures.contents (rw c.append_part.ensures.records c.requires.agrees) c.append_part.ensures.later c.silent.ensures

pub returns-in_default-clause-calls : goal.returns-in_default-clause-calls
returns-in_default-clause-calls g c = c.refuse.ensures.calls c.args.scene _ _ _ _ (no_bytes c.args.session.now c.args.bytes.now c.in_default.not-Takes)

pub returns-then-not-awaits-clause-calls : goal.returns-then-not-awaits-clause-calls
returns-then-not-awaits-clause-calls g c =
    let left = c.in-Takes.taking.left in
    let len : c.len-count.result ≡ length c.args.bytes.now.items = omega (arith, c.args.bytes.now.ok.0, c.len-count.ensures) in
    c.refuse-then-not-awaits.ensures.calls c.args.scene _ _ _ _
    (bytes_past c.args.session.now c.args.bytes.now c.in-Takes.taking c.in-Takes.is
    ((λ j. nat_lt 0 (sym len j) && nat_le (sym len j) left) ∙ sym c.awaits.ensures ∙ c.if-not-awaits.true))

pub returns-in-Ok-clause-calls : goal.returns-in-Ok-clause-calls
returns-in-Ok-clause-calls g c =
    let len : c.len-count.result ≡ length c.args.bytes.now.items = omega (arith, c.args.bytes.now.ok.0, c.len-count.ensures) in
    let left = c.in-Takes.taking.left in
    let fits : (nat_lt 0 (length c.args.bytes.now.items) && nat_le (length c.args.bytes.now.items) left) ≡ true =
    (λ j. nat_lt 0 (sym len j) && nat_le (sym len j) left) ∙ sym c.awaits.ensures ∙ c.if-not-awaits.false in
    piece_makes c.args.scene c.args.bytes.now c.args.session.now c.in-Takes.taking c.args.table.now _ _ _ _ c.silent.result c.in-Takes.is fits
    (rw c.silent.ensures (makes_one calls.Append false _ _ c.in-Ok.ensures.failing))

pub returns-in-Err-Failed-clause-calls : goal.returns-in-Err-Failed-clause-calls
returns-in-Err-Failed-clause-calls g c =
    let len : c.len-count.result ≡ length c.args.bytes.now.items = omega (arith, c.args.bytes.now.ok.0, c.len-count.ensures) in
    let left = c.in-Takes.taking.left in
    let fits : (nat_lt 0 (length c.args.bytes.now.items) && nat_le (length c.args.bytes.now.items) left) ≡ true =
    (λ j. nat_lt 0 (sym len j) && nat_le (sym len j) left) ∙ sym c.awaits.ensures ∙ c.if-not-awaits.false in
    let failed = rw c.in-Err-Failed.field-0-is at c.in-Err-Failed.ensures.failing in
    piece_makes c.args.scene c.args.bytes.now c.args.session.now c.in-Takes.taking c.args.table.now _ _ _ _ c.lost.result c.in-Takes.is fits
    (rw c.lost.ensures (makes_one calls.Append true _ _ failed))

pub returns-in-Err-NoMemory-clause-calls : goal.returns-in-Err-NoMemory-clause-calls
returns-in-Err-NoMemory-clause-calls g c = memory_left (Unit {0}) calls.Append _ _ _ c.in-Err-NoMemory.field-0-is c.in-Err-NoMemory.ensures.failing

pub returns-in_default-clause-contents : goal.returns-in_default-clause-contents
returns-in_default-clause-contents g c = contents_left _ _ c.refuse.result c.refuse.ensures.leaves

pub returns-then-not-awaits-clause-contents : goal.returns-then-not-awaits-clause-contents
returns-then-not-awaits-clause-contents g c = contents_left _ _ c.refuse-then-not-awaits.result c.refuse-then-not-awaits.ensures.leaves

pub returns-in-Ok-clause-contents : goal.returns-in-Ok-clause-contents
returns-in-Ok-clause-contents g c = rw c.silent.ensures c.append_part.ensures.contents

pub returns-in-Err-Failed-clause-contents : goal.returns-in-Err-Failed-clause-contents
returns-in-Err-Failed-clause-contents g c = rw c.lost.ensures c.append_part.ensures.contents

pub returns-in-Ok-clause-small : goal.returns-in-Ok-clause-small
returns-in-Ok-clause-small g c = λ small. c.append_part.ensures.small

pub returns-in-Err-Failed-clause-small : goal.returns-in-Err-Failed-clause-small
returns-in-Err-Failed-clause-small g c = λ small. c.append_part.ensures.small

pub returns-in-Err-NoMemory-clause-small : goal.returns-in-Err-NoMemory-clause-small
returns-in-Err-NoMemory-clause-small g c = λ small. c.append_part.ensures.small
