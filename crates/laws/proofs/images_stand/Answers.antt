use Rattle.laws.proofs.OfImages.{accepted_shape, refused_none, blank_accepted, worked_distances, only_the_trailer}
use Rattle.laws.proofs.images_stand.Goals as goal

pub returns : goal.returns
returns c = record { accepted = accepted_shape; refused = refused_none; blank = blank_accepted; worked = worked_distances; trailer = only_the_trailer }
