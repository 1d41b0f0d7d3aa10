-- What a proof unfolds to compute.
use Rattle.std.specs.Prelude.{⊤}
use Rattle.km_names.specs.AliasForm as km_names_aliasform
use Rattle.km_names.specs.Ascii as km_names_ascii
use Rattle.km_names.specs.Lines as km_names_lines
use Rattle.km_names.specs.Number as km_names_number
use Rattle.km_names.specs.Space as km_names_space
use Rattle.km_names.specs.Statements as km_names_statements
use Rattle.km_names.specs.Strings as km_names_strings
use Rattle.km_course.specs.Course.{◌>>=◌}
use Rattle.km_course.specs.Course as km_course_course
use Rattle.module_symbols.specs.Contents as module_symbols_contents
use Rattle.module_symbols.specs.Exports as module_symbols_exports
use Rattle.module_facts.specs.Facts as module_facts_facts
use Rattle.module_facts.specs.Faults as module_facts_faults
use Rattle.module_symbols.specs.Needs as module_symbols_needs
use Rattle.module_symbols.specs.Roles as module_symbols_roles
use Rattle.module_symbols.specs.Versions as module_symbols_versions
use Rattle.elf_object.specs.Object as elf_object_object
use Rattle.elf_object.specs.Places as elf_object_places
use Rattle.elf_sections.specs.Sections as elf_sections_sections
use Rattle.elf_sections.specs.Shape as elf_sections_shape
use Rattle.elf_object.specs.Symbols as elf_object_symbols
use Rattle.modinfo_fields.specs.Fields as modinfo_fields_fields
use Rattle.index_format.specs.Check as index_format_check
use Rattle.index_format.specs.File as index_format_file
use Rattle.index_format.specs.Node as index_format_node
use Rattle.index_format.specs.Nodes as index_format_nodes
use Rattle.index_format.specs.Tree as index_format_tree
use Rattle.index_format.specs.Walk as index_format_walk
use Rattle.relation_order.specs.Cycle as relation_order_cycle
use Rattle.relation_order.specs.Least as relation_order_least
use Rattle.relation_order.specs.Reached as relation_order_reached
use Rattle.relation_order.specs.Spread as relation_order_spread
use Rattle.symbol_binding.specs.Needs as symbol_binding_needs
use Rattle.symbol_binding.specs.Unmet as symbol_binding_unmet
use Rattle.unmet_file.specs.Forms as unmet_file_forms
use Rattle.unmet_file.specs.Line as unmet_file_line
use Rattle.unmet_file.specs.Unmet as unmet_file_unmet
use Rattle.mod_tree.specs.DependencyLine as mod_tree_dependencyline
use Rattle.mod_tree.specs.Order as mod_tree_order
use Rattle.mod_tree.specs.Search as mod_tree_search
use Rattle.mod_tree.specs.Tree as mod_tree_tree
use Rattle.provider_rel.specs.Items as provider_rel_items
use Rattle.kernel_exports.specs.KernelTable as kernel_exports_kerneltable
use Rattle.provider_rel.specs.Kinds as provider_rel_kinds
use Rattle.kernel_exports.specs.MapLines as kernel_exports_maplines
use Rattle.provider_rel.specs.Relation as provider_rel_relation
use Rattle.provider_rel.specs.Seen as provider_rel_seen
use Rattle.kernel_exports.specs.SymversLines as kernel_exports_symverslines
use Rattle.kernel_exports.specs.TableLines as kernel_exports_tablelines
use Rattle.stated_texts.specs.Stated as stated_texts_stated
use Rattle.stated_texts.specs.Text as stated_texts_text
use Rattle.depmod_core.specs.BuiltIn as depmod_core_builtin
use Rattle.depmod_core.specs.Dependencies as depmod_core_dependencies
use Rattle.depmod_core.specs.Files as depmod_core_files
use Rattle.x86_relocate.specs.Patched as x86_relocate_patched
use Rattle.x86_relocate.specs.Word as x86_relocate_word
use Rattle.image_layout.specs.Laid as image_layout_laid
use Rattle.image_layout.specs.Offsets as image_layout_offsets
use Rattle.image_layout.specs.Plain as image_layout_plain
use Rattle.image_layout.specs.Symbols as image_layout_symbols
use Rattle.model_loader.specs.Gap as model_loader_gap
use Rattle.model_loader.specs.Machine as model_loader_machine
use Rattle.model_loader.specs.Step as model_loader_step
use Rattle.stages_files.specs.Configuration as stages_files_configuration
use Rattle.stages_files.specs.IndexFile as stages_files_indexfile
use Rattle.stages_files.specs.KernelTable as stages_files_kerneltable
use Rattle.stages_files.specs.ModuleFile as stages_files_modulefile
use Rattle.stages_loads.specs.Loads as stages_loads_loads
use Rattle.stages_loads.specs.Modules as stages_loads_modules
use Rattle.stages_loads.specs.Tables as stages_loads_tables
use Rattle.modprobe_conf.specs.Rules as modprobe_conf_rules

unfoldable pub computing : ⊤
unfolding lib.Count.ones km_names_aliasform.normal_alias km_names_ascii.is_graphic
    km_names_ascii.hexadecimal km_names_lines.lines_of km_names_lines.statements
    km_names_lines.conf_lines km_names_number.le km_names_number.be km_names_number.signed
    km_names_space.trimmed km_names_space.first_word km_names_space.rest_after_word
    km_names_space.words km_names_statements.bad_line km_names_statements.stated
    km_names_statements.parsed km_names_strings.first_string ◌>>=◌ km_course_course.continued
    km_course_course.possible_after km_course_course.given km_course_course.act_with
    module_symbols_contents.section_contents module_symbols_contents.named_section
    module_symbols_contents.named_bytes module_symbols_contents.modinfo_bytes
    module_symbols_exports.given_version module_symbols_exports.is_gpl_entry
    module_symbols_exports.given_space module_symbols_exports.export_of
    module_symbols_exports.exports_of
    module_facts_facts.texts_of module_facts_facts.is_free_license module_facts_facts.is_free
    module_facts_facts.object_facts module_facts_faults.has_good_names module_facts_faults.is_twice
    module_facts_faults.is_undefined module_facts_faults.has_bad_version
    module_facts_faults.has_bad_versions module_facts_faults.has_bad_space
    module_facts_faults.facts_tests module_facts_faults.module_tests module_facts_faults.fact_fault
    module_symbols_needs.is_need module_symbols_needs.need_of module_symbols_needs.needs_of
    module_symbols_roles.stated_name module_symbols_roles.symbol_of
    module_symbols_versions.extended_bytes
    module_symbols_versions.ended_names module_symbols_versions.extended_list
    module_symbols_versions.is_bad_extended module_symbols_versions.entry_name
    module_symbols_versions.entry_list module_symbols_versions.are_bad_entries
    module_symbols_versions.version_list module_symbols_versions.is_bad_list
    module_symbols_versions.stated_version elf_object_object.object_tests
    elf_object_object.object_fault elf_object_places.is_alignment elf_object_places.align_test
    elf_object_places.place_in elf_object_places.is_unkept elf_object_places.is_bad_place
    elf_object_places.place_test elf_object_places.is_applied elf_object_places.section_places
    elf_object_places.places_of elf_object_places.rela_test elf_object_places.covers
    elf_object_places.is_shared elf_object_places.overlap_test elf_object_places.place_tests
    elf_sections_sections.section_of elf_sections_sections.sections_of elf_sections_shape.is_class
    elf_sections_shape.is_table elf_sections_shape.section_header elf_sections_shape.content
    elf_sections_shape.name_in elf_sections_shape.is_for_loading elf_sections_shape.is_kept
    elf_sections_shape.header_tests elf_sections_shape.content_test
    elf_sections_shape.name_table_test elf_sections_shape.name_test_in
    elf_sections_shape.shape_tests elf_sections_shape.shape_fault elf_object_symbols.rel_test
    elf_object_symbols.symbol_table elf_object_symbols.is_symbol_table
    elf_object_symbols.is_string_table elf_object_symbols.has_entries
    elf_object_symbols.is_good_table elf_object_symbols.table_test elf_object_symbols.symbol_entry
    elf_object_symbols.is_bad_symbol elf_object_symbols.kind_test elf_object_symbols.symbol_test_in
    elf_object_symbols.symbol_in elf_object_symbols.symbols_in elf_object_symbols.symbol_bytes
    elf_object_symbols.symbol_names elf_object_symbols.symbols_of elf_object_symbols.symbol_tests
    modinfo_fields_fields.field_of modinfo_fields_fields.fields_of
    modinfo_fields_fields.values_of_key index_format_check.prefix_fits
    index_format_check.children_fit index_format_check.whole_values index_format_check.values_fit
    index_format_check.is_sound index_format_check.arrival_fault index_format_check.arrival_faults
    index_format_check.arrivals index_format_check.index_fault index_format_file.node_bytes
    index_format_file.written index_format_file.file_of index_format_file.file
    index_format_node.root index_format_node.prefix index_format_node.after_prefix
    index_format_node.first_byte index_format_node.last_byte index_format_node.children_size
    index_format_node.child index_format_node.children index_format_node.after_children
    index_format_node.values_in index_format_node.values index_format_nodes.node_count
    index_format_tree.nodes_below index_format_tree.tree index_format_walk.step
    index_format_walk.walk_within index_format_walk.walk index_format_walk.at
    index_format_walk.visits relation_order_cycle.cycle relation_order_least.least_order
    relation_order_reached.reached relation_order_spread.spread symbol_binding_needs.agree
    symbol_binding_unmet.unmet unmet_file_forms.form_named unmet_file_line.line_text
    unmet_file_line.is_line unmet_file_line.unmet_line unmet_file_unmet.file_text
    unmet_file_unmet.bad_line unmet_file_unmet.stated_lines unmet_file_unmet.unmet_of
    mod_tree_dependencyline.is_dependency_line mod_tree_dependencyline.line_path
    mod_tree_dependencyline.line_needs mod_tree_order.in_order mod_tree_search.search_line
    mod_tree_search.search_of mod_tree_tree.tree_paths mod_tree_tree.name_count
    mod_tree_tree.bad_path mod_tree_tree.tree_of provider_rel_items.all_provided
    provider_rel_items.items kernel_exports_kerneltable.exports_of_map
    kernel_exports_kerneltable.exports_of_symvers kernel_exports_kerneltable.exports_with_addresses
    provider_rel_kinds.line_if kernel_exports_maplines.map_line provider_rel_relation.dependencies
    provider_rel_relation.relation_fault provider_rel_seen.provider_by provider_rel_seen.closures_by
    provider_rel_seen.obstacles_by km_names_ascii.prefixed_hexadecimal
    kernel_exports_symverslines.symvers_line kernel_exports_tablelines.refused_line
    kernel_exports_tablelines.stated depmod_core_builtin.built_in_names
    depmod_core_builtin.built_in_map depmod_core_dependencies.dep_text
    depmod_core_dependencies.dep_map depmod_core_files.files_by depmod_core_files.files
    depmod_core_files.output_fault depmod_core_files.outputs_of stated_texts_stated.is_usable_alias
    stated_texts_stated.is_usable_softdep stated_texts_stated.alias_text
    stated_texts_stated.softdep_text stated_texts_stated.symbols_text stated_texts_stated.alias_map
    stated_texts_stated.symbols_map stated_texts_text.with_piece x86_relocate_patched.patched
    x86_relocate_word.word image_layout_laid.patch_of image_layout_laid.laid
    image_layout_laid.overflow image_layout_offsets.aligned image_layout_offsets.class_of
    image_layout_offsets.end_of image_layout_offsets.fixed_start image_layout_offsets.variable_start
    image_layout_offsets.offset_after image_layout_offsets.offset image_layout_offsets.offsets
    image_layout_offsets.image_size image_layout_plain.piece image_layout_plain.filled
    image_layout_symbols.symbol_address image_layout_symbols.address image_layout_symbols.addresses
    model_loader_gap.gap_among model_loader_machine.table model_loader_step.given_addresses
    model_loader_step.refusal model_loader_step.entry_at model_loader_step.step
    stages_files_configuration.by_name stages_files_configuration.paths_of
    stages_files_indexfile.index_outcome stages_files_indexfile.first_text
    stages_files_kerneltable.table_outcome stages_files_modulefile.sections_outcome
    stages_loads_loads.load_outcome stages_loads_loads.entry_line stages_loads_modules.module_at
    stages_loads_modules.module_outcome stages_loads_tables.kernel_with
    stages_loads_tables.machine_outcome
    modprobe_conf_rules.alias_rule modprobe_conf_rules.blacklist_rule
    modprobe_conf_rules.name_with_rest modprobe_conf_rules.softdep_rule
    modprobe_conf_rules.command_of modprobe_conf_rules.rule_of
computing = tt
