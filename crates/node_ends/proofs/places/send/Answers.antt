-- What the proof of `places::send` needs beside the tactics.
use Rattle.std.proofs.Common.{rules, ◌≡◌, ◌<◌, Some, length, refl}
use Rattle.std.specs.Prelude.{slice_get}
use Rattle.std.proofs.lemmas.Option.{slice_get_read}
use Rattle.node_ends.proofs.Setting.{close_set, stay_set}
use Rattle.node_ends.proofs.places.send.Goals as goal

pub returns-clause-close : goal.returns-clause-close
returns-clause-close c = close_set c.args.ends.now.items c.place_in-place.result c.send.new.end c.requires.close c.send.ensures.close

pub returns-clause-paired : goal.returns-clause-paired
returns-clause-paired c =
    let within : c.place_in-place.result < length c.args.ends.now.items = search rules in
    let at : slice_get c.args.ends.now.items c.place_in-place.result ≡ Some c.index_mut.result.now =
    slice_get_read c.args.ends.now.items (length c.args.ends.now.items) c.place_in-place.result c.index_mut.result.now refl within c.index_mut.ensures.value in
    stay_set c.args.ends.now.items c.place_in-place.result c.index_mut.result.now c.send.new.end at c.send.ensures.paired
