use mathlib.Core.Path.{refl}
use Rattle.lines.proofs.Pieces.{long-digits, field_room, put-field}
use Rattle.lines.proofs.fields.put_figure.Goals as goal

pub put_field-requires : goal.put_field-requires
put_field-requires c = field_room 20 refl (long-digits _ c.ranges.x.fits) _ _ c.requires

pub returns : goal.returns
returns c = put-field 20 refl (long-digits _ c.ranges.x.fits) _ c.put_field.ensures
