use Rattle.core_chars.proofs.Decimal.{value_of_decimal}
use Rattle.core_chars.proofs.laws.digits_have_their_value.Goals as goal

pub returns : goal.returns
returns c n h = value_of_decimal n h
