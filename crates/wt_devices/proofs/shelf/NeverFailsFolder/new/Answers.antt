use Rattle.wt_devices.proofs.Shelves.{pages_of}
use Rattle.wt_devices.proofs.shelf.NeverFailsFolder.new.Goals as goal

pub returns-clause-map : goal.returns-clause-map
returns-clause-map c = pages_of c.args.pages c.requires
