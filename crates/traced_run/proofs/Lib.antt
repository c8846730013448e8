mod Tracing
mod Computed
