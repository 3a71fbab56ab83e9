use Rattle.dsv_base.proofs.Escaping.{percent_encode-url_text}
use Rattle.dsv_base.proofs.escapes.url_text.Goals as goal

pub returns : goal.returns
returns c = rw (c.from_vec.ensures, c.into_bytes.ensures.value, c.in_ok-append_to.ensures.ok, c.new-text.ensures.bytes, c.percent_encode.ensures.text, c.text.ensures.text) (percent_encode-url_text c.args.path.now)
