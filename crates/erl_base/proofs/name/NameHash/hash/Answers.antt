use Rattle.std.proofs.Common.{◌≡◌, sym, ap, ◌∙◌, [], ◌∷◌}
use Rattle.std.proofs.lemmas.Str.{encodes-chars}
use Rattle.std.specs.Prelude.{chars, encode_utf8_all}
use Rattle.erl_base.proofs.name.NameHash.hash.Goals as goal

pub returns : goal.returns
returns g c =
    let e : c.as_str.result.now ≡ encode_utf8_all c.args.self.now =
    sym (encodes-chars _ c.as_str.utf8) ∙ ap (λ bs. encode_utf8_all (chars bs)) c.as_str.ensures.value
    ∙ ap encode_utf8_all c.self.view_is in
    c.hash.ensures ∙ ap (λ bs. g.H.Hasher.write (g.H.Hasher.write c.args.state.now bs) (255 ∷ [])) e
