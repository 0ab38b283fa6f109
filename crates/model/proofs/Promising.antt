-- The whole promise, from its four parts.
use Rattle.model.specs.Promise.{Promise}
use Rattle.model.proofs.Fitting.{in_place}
use Rattle.model.proofs.Lining.{in_order}
use Rattle.model.proofs.Moving.{in_motion}
use Rattle.model.proofs.Delivering.{in_time}

pub promise : Promise
promise g acc h =
    record { in_time = in_time g acc h; in_motion = in_motion g acc h; in_order = in_order g acc h; in_place = in_place g acc h }
