-- What a row of the code's table stands for.
use Rattle.smap_frames.specs.Forms as spec
use Rattle.smap_frames.specs.declared.forms.Form.{Form}

abbrev pub form_in : Form → spec.Form
form_in f = record {
  behind_at = f.behind_at;
  named = f.named;
  mark = f.mark;
  opening = f.opening.now;
  closing = f.closing.now;
}
