use Rattle.disk_model.proofs.Pick.{image_is_picked}
use Rattle.disk_model.proofs.image.each_image_is_picked.Goals as goal

pub returns : goal.returns
returns c = image_is_picked
