pub mod Certificate
pub mod Examples
