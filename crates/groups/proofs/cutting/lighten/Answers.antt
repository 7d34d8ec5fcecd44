use Rattle.groups.proofs.Lightening.{lightened-not}
use Rattle.groups.proofs.cutting.lighten.Goals as goal

pub returns-then-weight-uncut : goal.returns-then-weight-uncut
returns-then-weight-uncut c = lightened-not c.requires.loaded c.if-weight-uncut.true
