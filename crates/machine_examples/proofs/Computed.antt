-- Each example, by computing it.
use Rattle.std.proofs.Common.{◌≡◌, false, true, refl}
use Rattle.machine_examples.specs.RoomAndRegisters.{RoomAndRegisters}
use Rattle.machine_examples.specs.FramesAndTags.{FramesAndTags}
use Rattle.machine_examples.specs.SelectionsAndTests.{SelectionsAndTests}
use Rattle.machine_examples.specs.CallRules.{CallRules}
use Rattle.machine_examples.specs.ReceivePlaces.{ReceivePlaces}
use Rattle.machine_examples.specs.MarkerRules.{MarkerRules}
use Rattle.machine_examples.specs.BitContexts.{BitContexts}
use Rattle.machine_examples.specs.StepRules.{StepRules}
use Rattle.machine_examples.specs.InvalidModules.{InvalidModules}
use Rattle.beam_table.specs.MachineRun.{asm_run}
use Rattle.beam_table.specs.ValidModule.{attribute_ok, fun_ok}
use Rattle.erl_term.specs.WellFormed.{comes_first}

-- a condition that does not hold
fails : false ≡ true → ⊥
fails e = cc

pub room_and_registers : RoomAndRegisters
unfolding asm_run
room_and_registers = record {
  call_ext_registers = (refl, refl);
  return_registers = (refl, refl);
  return_room = (refl, refl);
  handler_registers = (refl, refl);
  handler_room = (refl, refl);
  look_registers = (refl, refl);
  no_message_registers = (refl, refl);
  pass_over_registers = (refl, refl);
  wait_registers = (refl, refl);
  no_wait_registers = (refl, refl);
  timed_wait_registers = (refl, refl);
  call_registers = (refl, refl);
  last_call_registers = (refl, refl);
  collected_room = (refl, refl);
  call_ext_room = (refl, refl);
  call_room = (refl, refl);
  last_call_room = (refl, refl);
  reads_first = refl;
  tuple_words = refl;
  tuple_header = (refl, refl);
  frame_slots = (refl, refl);
  frame_words = (refl, refl);
  frame_and_words = (refl, refl);
  fun_words = refl;
  fun_of_three_words = (refl, refl);
}

pub frames_and_tags : FramesAndTags
unfolding asm_run
frames_and_tags = record {
  trim_over_a_tag = (refl, refl);
  trim_below_a_tag = refl;
  move_of_a_tag = (refl, refl);
  swap_of_a_tag = (refl, refl);
  tag_over_a_tag = (refl, refl);
  try_end_of_a_catch = refl;
  catch_end_without_a_raise = refl;
  call_fun_without_frame = (refl, refl);
  send_without_frame = (refl, refl);
  stacktrace_without_frame = (refl, refl);
  last_call_with_frame = (refl, refl);
  call_last_without_frame = (refl, refl);
  call_last_of_another_frame = (refl, refl);
  apply_last_of_another_frame = (refl, refl);
  call_without_argument = (refl, refl);
  last_call_without_argument = (refl, refl);
}

pub selections_and_tests : SelectionsAndTests
unfolding asm_run
selections_and_tests = record {
  first_value = refl;
  first_size = refl;
  tag_and_size = refl;
  another_size = refl;
  another_tag = refl;
  nil_is_a_list = refl;
  port_is_no_pid = refl;
  pid_is_no_port = refl;
  pid = refl;
  external_fun = refl;
  an_atom = refl;
  no_atom = refl;
  a_map = refl;
  no_map = refl;
  less = refl;
  equal_is_not_less = refl;
  equal_does_not_differ = refl;
  differs = refl;
}

pub call_rules : CallRules
unfolding asm_run
call_rules = record {
  error_of_a_module = (refl, refl);
  listed_function = (refl, refl);
  raising_function = refl;
  captures_within_arity = (refl, refl);
  label_of_another_site = (refl, refl);
  first_of_a_name = refl;
  external_fun = refl;
  local_fun_of_another_arity = refl;
  local_fun = refl;
  local_fun_entry = refl;
  message_sent = refl;
  refused_by_error = refl;
  refused_by_exit = refl;
  refused_by_throw = refl;
}

pub receive_places : ReceivePlaces
unfolding asm_run
receive_places = record {
  after_a_message = refl;
  after_a_timeout = refl;
  after_a_wrong_timeout = refl;
}

pub marker_rules : MarkerRules
unfolding asm_run
marker_rules = record {
  next_serial = refl;
  kept = refl;
  forgotten = refl;
  forgotten_begins_at_start = refl;
  unbound_takes_no_choice = refl;
  unbound_begins_at_start = refl;
  cleared = refl;
  another_one_cleared = refl;
  bound_anew = refl;
}

pub bit_contexts : BitContexts
unfolding asm_run
bit_contexts = record {
  position_past_the_end = refl;
  exact_tail = refl;
  shorter_tail = refl;
  tail_stays = refl;
  part_is_made = refl;
  number_of_all = refl;
  skip_of_all = refl;
  position_collects = (refl, refl);
  building_collects = (refl, refl);
  building_leaves_no_room = (refl, refl);
  context_is_no_position = (refl, refl);
}

pub step_rules : StepRules
unfolding asm_run
step_rules = record {
  labels = refl;
  labels_jumped_to = refl;
  item_first = refl;
  keys_in_order = refl;
}

pub invalid_modules : InvalidModules
unfolding fun_ok attribute_ok comes_first
invalid_modules = record {
  valid = record { labels = refl; functions = refl; exports = refl; attributes = refl };
  label_twice = λ h. fails h.labels;
  label_zero = λ h. fails h.labels;
  jump_to_another_function = λ h. fails h.functions;
  jump_to_no_label = λ h. fails h.functions;
  call_of_no_entry = λ h. fails h.functions;
  head_in_the_code = λ h. fails h.functions;
  high_register = λ h. fails h.functions;
  high_arity = λ h. fails h.functions;
  unit_zero = λ h. fails h.functions;
  unit_too_large = λ h. fails h.functions;
  wide_integer = λ h. fails h.functions;
  wide_negative = λ h. fails h.functions;
  other_number_of_arguments = λ h. fails h.functions;
  too_few_arguments = λ h. fails h.functions;
  without_collecting = λ h. fails h.functions;
  collecting = λ h. fails h.functions;
  always_raising = λ h. fails h.functions;
  export_of_no_function = λ h. fails h.exports;
  export_twice = λ h. fails h.exports;
  attribute_out_of_order = λ h. fails h.attributes;
  wide_attribute = λ h. fails h.attributes;
}
