use Rattle.std.proofs.Common.{◌∙◌}
use Rattle.term_text.proofs.write.push_fun_head.Goals as goal

pub returns : goal.returns
returns c r =
    c.in_ok-push_bytes-4.ensures.added r ∙ c.in_ok-put_u32-2.ensures _ ∙ c.in_ok-push_bytes-3.ensures.added _
    ∙ c.in_ok-put_u32.ensures _
    ∙ c.in_ok-push_bytes-2.ensures.added _ ∙ c.in_ok-put_name.ensures _ ∙ c.in_ok-push_bytes.ensures.added _
