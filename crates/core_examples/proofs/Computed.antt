-- Each example, by computing it.
use Rattle.std.proofs.Common.{refl}
use Rattle.core_examples.specs.EvaluationOrder.{EvaluationOrder}
use Rattle.core_examples.specs.TailMarks.{TailMarks}
use Rattle.core_examples.specs.Raises.{Raises}
use Rattle.core_examples.specs.FunCalls.{FunCalls}
use Rattle.core_examples.specs.WorldRequests.{WorldRequests}
use Rattle.core_examples.specs.SiteNumbers.{SiteNumbers}
use Rattle.core_examples.specs.MapsAndForms.{MapsAndForms}
use Rattle.core_examples.specs.ReceiveMarkers.{ReceiveMarkers}
use Rattle.core_examples.specs.PassedOnRests.{PassedOnRests}
use Rattle.core_examples.specs.BitSegments.{BitSegments}
use Rattle.core_examples.specs.ListedAnswers.{ListedAnswers}
use Rattle.core_examples.specs.TermsInOrder.{TermsInOrder}
use Rattle.bif_table.specs.BuiltinAnswer.{answer}
use Rattle.core_meaning.specs.CoreRun.{evaluated}
use Rattle.erl_term.specs.TermOrder.{compare}

pub evaluation_order : EvaluationOrder
unfolding evaluated
evaluation_order = record {
  elements = refl;
  operator = refl;
  no_operator = refl;
  call_names = refl;
  map_pairs = refl;
  segment_parts = refl;
  all_segments = refl;
  list_items = refl;
  timeout_first = refl;
}

pub tail_marks : TailMarks
unfolding evaluated
tail_marks = record {
  of_do = refl;
  of_case = refl;
  of_handler = refl;
  of_try = refl;
  of_catch = refl;
  of_timeout = refl;
  of_guard = refl;
}

pub raises : Raises
unfolding evaluated
raises = record {
  second_part = refl;
  first_of_do = refl;
  handler_variables = refl;
  function_head = refl;
  trace_of_the_world = refl;
  caught_error = refl;
}

pub fun_calls : FunCalls
unfolding evaluated
fun_calls = record {
  own = refl;
  own_of_another_arity = refl;
  name_of_another_arity = refl;
  of_another_module = refl;
  of_an_unknown_site = refl;
  external = refl;
  external_of_another_arity = refl;
  name_as_value = refl;
}

pub world_requests : WorldRequests
unfolding evaluated
world_requests = record {
  send_by_name = refl;
  send_gives = refl;
  refused_by_error = refl;
  refused_by_exit = refl;
  refused_by_throw = refl;
  longest_wait = refl;
  too_long = refl;
  negative_wait = refl;
}

pub site_numbers : SiteNumbers
unfolding evaluated
site_numbers = record {
  in_clauses = refl;
  behind_timeout = refl;
  in_later_clauses = refl;
  captures_of_let = refl;
  captures_of_map = refl;
  captures_of_segment = refl;
  captured_key = refl;
  captured_size = refl;
  captured_by_name = refl;
}

pub maps_and_forms : MapsAndForms
unfolding evaluated
maps_and_forms = record {
  later_pair = refl;
  base_value = refl;
  no_base = refl;
  no_base_to_replace = refl;
  aliased_list = refl;
  no_item = refl;
  another_width = refl;
  list_with_tail = refl;
  key_variable = refl;
}

pub receive_markers : ReceiveMarkers
unfolding evaluated
receive_markers = record {
  kept = refl;
  kept_without_choice = refl;
  forgotten = refl;
  unbound_takes_no_choice = refl;
  other_stays_bound = refl;
  bound_anew = refl;
  no_reference = refl;
  in_a_fun = refl;
  in_a_value = refl;
  in_a_key = refl;
  another_one = refl;
}

pub passed_on_rests : PassedOnRests
unfolding evaluated
passed_on_rests = record {
  handed_on = refl;
  under_an_alias = refl;
  used_in_the_guard = refl;
  used_twice = refl;
  left_as_a_number = refl;
  failing_case = refl;
  first_of_do = refl;
  another_arity = refl;
  another_primop = refl;
  not_in_tail_position = refl;
  unused = refl;
  used_as_a_size = refl;
  case_in_a_guard = refl;
  behind_a_literal = refl;
  another_width = refl;
}

pub bit_segments : BitSegments
unfolding evaluated
bit_segments = record {
  number_in_units = refl;
  part_in_units = refl;
  part_too_long = refl;
  whole = refl;
  not_in_bytes = refl;
  in_bits = refl;
  matched_number = refl;
  matched_in_bytes = refl;
  matched_in_bits = refl;
}

pub listed_answers : ListedAnswers
unfolding answer
listed_answers = record {
  band_negative = refl;
  bor_negative = refl;
  bxor_negatives = refl;
  bxor_second = refl;
  bxor_first = refl;
  bsl_negative = refl;
  bsl_rounds_down = refl;
  bsr_negative = refl;
  record_size = refl;
  record_without_tag = refl;
  record_negative = refl;
  external_fun = refl;
  external_arity = refl;
  local_fun = refl;
  nil_is_a_list = refl;
  size_of_bits = refl;
  byte_size_of_bits = refl;
  last_element = refl;
  past_the_end = refl;
  before_the_first = refl;
  false_and = refl;
  true_or = refl;
  get_of_no_map = refl;
}

pub terms_in_order : TermsInOrder
unfolding compare
terms_in_order = record {
  lists_by_items = refl;
  lists_by_lengths = refl;
  tuples_by_sizes = refl;
  list_and_bits = refl;
  bits_and_list = refl;
  nil_and_bits = refl;
  maps_by_keys = refl;
  maps_by_values = refl;
  maps_by_sizes = refl;
  funs_by_sites = refl;
  funs_by_arities = refl;
  funs_by_captures = refl;
}
