-- What the proof of `carrying::carry_end` needs beside the tactics.
use Rattle.std.proofs.Common.{rules, ◌≡◌, ◌<◌, true, Some, length, refl, sym, subst}
use Rattle.std.specs.Prelude.{slice_get}
use Rattle.std.proofs.lemmas.Option.{slice_get_read}
use Rattle.link_ring.specs.Ends.{EndView, ArePaired}
use Rattle.node_ends.specs.Ends.{link_at, name_of}
use Rattle.node_ends.specs.Invariant.{may_close}
use Rattle.node_ends.proofs.Setting.{close_at, close_set, link_is}
use Rattle.node_ends.proofs.Joining.{close_carried, paired_of}
use Rattle.node_ends.proofs.carrying.carry_end.Goals as goal

pub returns-clause-close_a : goal.returns-clause-close_a
returns-clause-close_a c =
    let xs = c.args.a.now.items in
    let ys = c.args.b.now.items in
    let i = c.place_in-i.result in
    let j = c.place_in-j.result in
    let v = c.index_mut.result.now in
    let w = c.index_mut-2.result.now in
    let within : i < length xs = search rules in
    let also : j < length ys = search rules in
    let at : slice_get xs i ≡ Some v = slice_get_read xs (length xs) i v refl within c.index_mut.ensures.value in
    let other : slice_get ys j ≡ Some w = slice_get_read ys (length ys) j w refl also c.index_mut-2.ensures.value in
    let pair : ArePaired v w = paired_of (link_at xs (name_of c.args.x)) (link_at ys (name_of c.args.y)) v w
    (link_is xs (name_of c.args.x) i v c.place_in-i.ensures.slot c.place_in-i.ensures.place at)
    (link_is ys (name_of c.args.y) j w c.place_in-j.ensures.slot c.place_in-j.ensures.place other) c.requires.paired in
    close_set xs i c.carry.new.a c.requires.close_a
    (subst (λ (x : EndView). may_close x ≡ true) (sym c.carry.ensures.first) (close_carried v w pair (close_at xs i v c.requires.close_a at)))

pub returns-clause-close_b : goal.returns-clause-close_b
returns-clause-close_b c =
    let xs = c.args.a.now.items in
    let ys = c.args.b.now.items in
    let i = c.place_in-i.result in
    let j = c.place_in-j.result in
    let v = c.index_mut.result.now in
    let w = c.index_mut-2.result.now in
    let within : i < length xs = search rules in
    let also : j < length ys = search rules in
    let at : slice_get xs i ≡ Some v = slice_get_read xs (length xs) i v refl within c.index_mut.ensures.value in
    let other : slice_get ys j ≡ Some w = slice_get_read ys (length ys) j w refl also c.index_mut-2.ensures.value in
    let pair : ArePaired v w = paired_of (link_at xs (name_of c.args.x)) (link_at ys (name_of c.args.y)) v w
    (link_is xs (name_of c.args.x) i v c.place_in-i.ensures.slot c.place_in-i.ensures.place at)
    (link_is ys (name_of c.args.y) j w c.place_in-j.ensures.slot c.place_in-j.ensures.place other) c.requires.paired in
    close_set ys j c.carry.new.b c.requires.close_b
    (subst (λ (x : EndView). may_close x ≡ true) (sym c.carry.ensures.second) (close_carried w v (record { first = pair.second; second = pair.first }) (close_at ys j w c.requires.close_b other)))
